-- What one more read or write changes, for the loops of src/streams.rt.
use Rattle.std.proofs.Common.{◌≡◌, ℕ, ◌+◌, ◌-◌, ◌≤◌, ◌<◌, inr, List, ◌++◌, length, take, drop, Option, sym, ap, ◌∙◌, subst, arith, length-append, length-take, take-add, take_all, length-drop, min}
use Rattle.std.specs.Io.KnownBytes.{Appends, Consumes, IsAtEnd, Keeps}
use Rattle.std.specs.Prelude.{false, Result, Ok, Err, OnOk, OnErr, IfSome, None, Some, ◌⊎◌}
use Rattle.std.specs.Result.{is_err, IsErr}
use Rattle.arbitrary_base.specs.Streams.{AppendsBeginning}
use Rattle.arbitrary_base.specs.Watched.{NoFailure, Failure}
use Rattle.arbitrary_base.specs.declared.watched.Watched.{Watched}
use Rattle.std.proofs.KnownBytes.{Appends-trans, Consumes-trans}
use Rattle.std.proofs.lemmas.List.{take-append-le, take_min}
use Rattle.std.proofs.Math.Seq.{take-append-add, take-append_seam}

-- the next n bytes at their place
pub read_more : (a b c : Option (List ℕ)) (old new post : List ℕ) (at n : ℕ) → at ≤ length old → n ≤ length new → Consumes a b (take at old) → Consumes b c (take n new)
    → Consumes a c (take (at + n) (take at old ++ (new ++ post)))
read_more a b c old new post at n h k p q =
    let long : length (take at old) ≡ at = omega (arith, length-take at old) in
    let e : take (at + n) (take at old ++ (new ++ post)) ≡ take at old ++ take n new =
    ap (λ (m : ℕ). take (m + n) (take at old ++ (new ++ post))) (sym long) ∙ take-append-add (take at old) (new ++ post) n ∙ ap (λ (l : List ℕ). take at old ++ l) (take-append-le n new post k) in
    subst (Consumes a c) (sym e) (Consumes-trans a b c (take at old) (take n new) p q)

-- the rest of a text from a place on
pub written_more : (a b c : Option (List ℕ)) (text : List ℕ) (at n : ℕ) → Appends a b (take at text) → Appends b c (take n (take (length text - at) (drop at text))) → Appends a c (take (at + n) text)
written_more a b c text at n p q =
    let rest : take (length text - at) (drop at text) ≡ drop at text = take_all (length text - at) (drop at text) (omega (arith, length-drop at text)) in
    subst (Appends a c) (sym (take-add at n text)) (Appends-trans a b c (take at text) (take n (drop at text)) p (subst (λ (t : List ℕ). Appends b c (take n t)) rest q))

pub room_left : (old new post : List ℕ) (at n : ℕ) → at ≤ length old → n ≤ length new → at + n ≤ length (take at old ++ (new ++ post))
room_left old new post at n h k = omega (arith, length-append (take at old) (new ++ post), length-append new post, length-take at old)

-- no call failed, and then none again
pub none_failed : {D : Type 0} (a b c : Watched D) → NoFailure a b → NoFailure b c → NoFailure a c
none_failed a b c p q = (q.0 ∙ p.0, q.1 ∙ p.1)

-- no call failed, and then one did
pub failed_after : {D : Type 0} (a b c : Watched D) → NoFailure a b → Failure b c → Failure a c
failed_after a b c p q = (q.0, λ e. q.1 (e ∙ sym p.1))

-- a clause on the value holds of an error, and one on the error where its fact holds
pub on_ok-of_err : {A E : Type 0} (r : Result A E) (P : Type 0) → IsErr r → OnOk r P
on_ok-of_err (Ok x) P e = cc
on_ok-of_err (Err x) P e = tt

pub on_err : {A E P : Type 0} (r : Result A E) → P → OnErr r P
on_err (Ok x) p = tt
on_err (Err x) p = p

pub on_ok : {A E P : Type 0} (r : Result A E) → P → OnOk r P
on_ok (Ok x) p = p
on_ok (Err x) p = tt

pub on_err-of_ok : {A E : Type 0} (r : Result A E) (P : Type 0) → is_err r ≡ false → OnErr r P
on_err-of_ok (Ok x) P e = tt
on_err-of_ok (Err x) P e = cc

-- a failed write keeps the beginning that was written
pub begun_keeps : (a b c : Option (List ℕ)) (text : List ℕ) (at : ℕ) → Appends a b (take at text) → Keeps b c → AppendsBeginning a c text
begun_keeps None b c text at p k = (at, tt)
begun_keeps (Some xs) None c text at p k = absurd p
begun_keeps (Some xs) (Some ys) None text at p k = absurd k
begun_keeps (Some xs) (Some ys) (Some zs) text at p k = (at, k ∙ p)

pub if_some : {A : Type 0} {P : A → Type 0} (o : Option A) → ((x : A) → P x) → IfSome o P
if_some None p = tt
if_some (Some x) p = p x

-- a read that gives nothing is at the end, so the input is shorter than what is read
pub short_input : (a b c : Option (List ℕ)) (F : Type 0) (old new : List ℕ) (at n m : ℕ) → Consumes a b (take at old) → Consumes b c (take n new) → n ≡ 0 → IsAtEnd c
    → at < length old → length old ≡ m → IfSome a (λ held. F ⊎ (length held < m))
short_input None b c F old new at n m p q z e h l = tt
short_input (Some xs) None c F old new at n m p q z e h l = absurd p
short_input (Some xs) (Some ys) None F old new at n m p q z e h l = absurd q
short_input (Some xs) (Some ys) (Some zs) F old new at n m p q z e h l =
    inr (omega (arith, ap length p, ap length q, ap length e, length-append (take at old) ys, length-append (take n new) zs, length-take at old, length-take n new))

-- what is at the front
pub take-at_front : (n : ℕ) (xs ys rest : List ℕ) → n ≡ length ys → xs ≡ ys → take n (xs ++ rest) ≡ ys
take-at_front n xs ys rest e f = (λ i. take (e i) (f i ++ rest)) ∙ take-append_seam ys rest

pub ruleset fronts = (take-at_front)

-- ---- for callers that write one text after another

-- a beginning of a text is one of a longer text
pub begun_append : (a b : Option (List ℕ)) (text rest : List ℕ) → AppendsBeginning a b text → AppendsBeginning a b (text ++ rest)
begun_append a b text rest h =
    let n = min h.0 (length text) in
    let e : take n (text ++ rest) ≡ take h.0 text = take-append-le n text rest (omega arith) ∙ take_min h.0 text in
    (n, subst (Appends a b) (sym e) h.1)

-- all of a text, and a beginning of the next
pub begun_after : (a b c : Option (List ℕ)) (text next : List ℕ) → Appends a b text → AppendsBeginning b c next → AppendsBeginning a c (text ++ next)
begun_after a b c text next p h =
    (length text + h.0, subst (Appends a c) (sym (take-append-add text next h.0)) (Appends-trans a b c text (take h.0 next) p h.1))
