-- The private fields of a `Watched`, for the contracts of the calls on streams.
use Rattle.std.specs.Prelude.{◌≡◌, ◌≢◌, ℕ, Bool, IsTrue}
use Rattle.arbitrary_base.specs.declared.watched.Watched.{Watched}

-- `w.into_inner()`
abbrev pub inner_of : {D : Type 0} → Watched D → D
inner_of w = w.inner

-- `w.failed()`
abbrev pub has_failed : {D : Type 0} → Watched D → Bool
has_failed w = w.failed

-- `w.failures()`
abbrev pub failures_of : {D : Type 0} → Watched D → ℕ
failures_of w = w.failures

-- from the first moment to the second, no call failed
abbrev pub NoFailure : {D : Type 0} → Watched D → Watched D → Type 0
NoFailure old new = (has_failed new ≡ has_failed old) × (failures_of new ≡ failures_of old)

-- from the first moment to the second, a call failed
abbrev pub Failure : {D : Type 0} → Watched D → Watched D → Type 0
Failure old new = IsTrue (has_failed new) × (failures_of new ≢ failures_of old)
