-- Laws of the flat array. Each call falls under one of three cases (accepted, no such line, life used), and in each the definitions
-- compute; a run of two lists of calls is the run of the one after that of the other.
use Rattle.std.proofs.Common.{◌≡◌, ℕ, ◌-◌, ◌%◌, ◌^◌, ◌<◌, ◌≤◌, Bool, cond, ltb, List, [], ◌∷◌, ◌++◌, length, get_or, Some, None, Ok, Err, Option, sym, refl, ap, ◌∙◌}
use Rattle.std.proofs.lemmas.List.{get_or_default}
use Rattle.std.proofs.lemmas.Option.{slice_get_past, slice_get_read}
use Rattle.std.proofs.lemmas.Bool.{lt-ltb, le-ltb}
use Rattle.std.specs.Option.{ok_or}
use Rattle.line.specs.declared.denial.Denial.{Denial}
use Rattle.line.specs.declared.denial.Denial.TheVariants.{NoSuchLine, LifeUsed}
use Rattle.medium.specs.declared.call.Call.{Call}
use Rattle.medium.specs.declared.call.Call.TheVariants.{Read, Write}
use Rattle.medium.specs.Array.{Array, denied_by, unless_denied, accepted, next, after, fetched, reply, replies, Wrote}

-- ---- which question denies a call
module _ {A : Type 0} (a : Array A) (i : ℕ) where
  pub accepts_read : i < length a.lines → denied_by a (Read i) ≡ None
  unfolding denied_by
  accepts_read h = ap (λ b. cond b None (Some NoSuchLine)) (lt-ltb i (length a.lines) h)

  pub denies_read : length a.lines ≤ i → denied_by a (Read i) ≡ Some NoSuchLine
  unfolding denied_by
  denies_read h = ap (λ b. cond b None (Some NoSuchLine)) (le-ltb i (length a.lines) h)

  life_question : Bool → Option Denial
  life_question b = cond b (cond (ltb a.taken a.life) None (Some LifeUsed)) (Some NoSuchLine)

  pub accepts_write : (v : A) → i < length a.lines → a.taken < a.life → denied_by a (Write i v) ≡ None
  unfolding denied_by life_question
  accepts_write v h k = ap life_question (lt-ltb i (length a.lines) h) ∙ ap (λ b. cond b None (Some LifeUsed)) (lt-ltb a.taken a.life k)

  pub denies_line : (v : A) → length a.lines ≤ i → denied_by a (Write i v) ≡ Some NoSuchLine
  unfolding denied_by life_question
  denies_line v h = ap life_question (le-ltb i (length a.lines) h)

  pub denies_life : (v : A) → i < length a.lines → a.life ≤ a.taken → denied_by a (Write i v) ≡ Some LifeUsed
  unfolding denied_by life_question
  denies_life v h k = ap life_question (lt-ltb i (length a.lines) h) ∙ ap (λ b. cond b None (Some LifeUsed)) (le-ltb a.taken a.life k)

-- ---- one call
pub next_accepted : {A : Type 0} (a : Array A) (c : Call A) → denied_by a c ≡ None → next a c ≡ accepted a c
unfolding next
next_accepted a c e = ap (λ o. unless_denied o (accepted a c) a) e

pub next_denied : {A : Type 0} (a : Array A) (c : Call A) (d : Denial) → denied_by a c ≡ Some d → next a c ≡ a
unfolding next
next_denied a c d e = ap (λ o. unless_denied o (accepted a c) a) e

pub next_read : {A : Type 0} (a : Array A) (i : ℕ) → next a (Read i) ≡ a
unfolding next
next_read a i = elim (denied_by a (Read i)) as (λ o. unless_denied o a a ≡ a) [ None ↦ refl | Some d ↦ refl ]

-- ---- what a read answers
pub fetched_at : {A : Type 0} (ls : List A) (i : ℕ) (v : A) → i < length ls → v ≡ get_or ls i v → Ok v ≡ fetched ls i
fetched_at ls i v h e = sym (ap (λ o. ok_or o NoSuchLine) (slice_get_read ls (length ls) i v refl h e))

pub fetched_by : {A : Type 0} (ls : List A) (i : ℕ) (v d : A) → i < length ls → v ≡ get_or ls i d → Ok v ≡ fetched ls i
fetched_by ls i v d h e = fetched_at ls i v h (e ∙ get_or_default ls i d v h)

pub fetched_past : {A : Type 0} (ls : List A) (i : ℕ) → length ls ≤ i → Err NoSuchLine ≡ fetched ls i
fetched_past ls i h = sym (ap (λ o. ok_or o NoSuchLine) (slice_get_past ls i h))

-- ---- what a write comes to
module _ {A : Type 0} (a : Array A) (w i : ℕ) (v : A) where
  pub wrote_accepted : (a' : Array A) (w' t : ℕ) → i < length a.lines → a.taken < a.life → a' ≡ accepted a (Write i v) → w < w' → t ≡ (w' - w) % 2 ^ 64
      → Wrote a w i v a' w' (Ok t)
  wrote_accepted a' w' t h k e l m =
      let n = accepts_write a i v h k in record { array = e ∙ sym (next_accepted a (Write i v) n); answer = (n, (l, m)) }

  pub wrote_denied : (a' : Array A) (w' : ℕ) (d : Denial) → denied_by a (Write i v) ≡ Some d → a' ≡ a → w' ≡ w → Wrote a w i v a' w' (Err d)
  wrote_denied a' w' d n e l = record { array = e ∙ sym (next_denied a (Write i v) d n); answer = (n, l) }

-- ---- runs
pub after_append : {A : Type 0} (a : Array A) (cs ds : List (Call A)) → after a (cs ++ ds) ≡ after (after a cs) ds
unfolding after
after_append a [] ds = refl
after_append a (c ∷ cs) ds = after_append (next a c) cs ds

pub replies_append : {A : Type 0} (a : Array A) (cs ds : List (Call A)) → replies a (cs ++ ds) ≡ replies a cs ++ replies (after a cs) ds
unfolding after replies
replies_append a [] ds = refl
replies_append a (c ∷ cs) ds = ap (λ rs. reply a c ∷ rs) (replies_append (next a c) cs ds)
