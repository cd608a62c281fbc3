-- Calls in turn on a byte medium. Each write alters the memory as the flat array is altered, and each toll is 1, since the wear is what is taken
-- and an accepted write takes one: by induction over the calls.
use Rattle.std.proofs.Common.{◌≡◌, ℕ, ◌+◌, ◌-◌, ◌%◌, ◌^◌, ◌<◌, List, [], ◌∷◌, map, Some, None, Ok, Err, sum, Option, Result, sym, refl, ap, ◌∙◌, arith}
use Rattle.line.specs.Answers.{Answer}
use Rattle.line.specs.declared.answer.Accepted.TheVariants.{Line, Toll}
use Rattle.line.specs.declared.denial.Denial.{Denial}
use Rattle.line.specs.declared.load.Load.{Load}
use Rattle.medium.specs.Array.{Array, denied_by, unless_denied, accepted, next, after, fetched, reply, replies, read_reply, write_reply}
use Rattle.medium.specs.Chain.{WriteStep, write_answer, InTurn}
use Rattle.medium.specs.Law.{reply_of, left}
use Rattle.medium.specs.Meaning.{means}
use Rattle.medium.specs.declared.call.Call.{Call}
use Rattle.medium.specs.declared.call.Call.TheVariants.{Read, Write}
use Rattle.medium.specs.declared.medium.Medium.{Ghosts}
use Rattle.medium.proofs.Arrays.{next_accepted, next_read}
use Rattle.runner.specs.OnBytes.{Memory, array_in, memory_accepted, memory_next, memory_after, byte_answer, byte_totals}
use Rattle.runner.specs.declared.totals.Totals.{Totals}

-- what a read answers is what the array replies: it never replies that it has written
read_answered : (x : Result Load Denial) (r : Answer Load) → reply_of r ≡ read_reply x → r ≡ byte_answer (read_reply x)
read_answered x (Ok (Line l)) h = ap byte_answer h
read_answered x (Err d) h = ap byte_answer h
read_answered (Ok v) (Ok (Toll t)) h = let z : ◌≡◌ {A = ℕ} 0 1 = cc in absurd (omega arith)
read_answered (Err d) (Ok (Toll t)) h = let z : ◌≡◌ {A = ℕ} 0 1 = cc in absurd (omega arith)

-- ---- the life never changes
next_life : {A : Type 0} (a : Array A) (c : Call A) → (next a c).life ≡ a.life
unfolding next
next_life a c =
    elim (denied_by a c) as (λ o. (unless_denied o (accepted a c) a).life ≡ a.life)
    [ None ↦ elim c as (λ x. (accepted a x).life ≡ a.life) [ Read i ↦ refl | Write i v ↦ refl ] | Some d ↦ refl ]

one_toll : (t w w' k : ℕ) → w < w' → t ≡ (w' - w) % 2 ^ 64 → w' ≡ k + 1 → w ≡ k → t ≡ 1
one_toll t w w' k h e f g = let d : w' - w ≡ 1 = omega arith in e ∙ ap (λ x. x % 2 ^ 64) d

module _ {M : Type 0} (g : Ghosts M Load) (mem : M → Memory) (life : M → ℕ)
    (is-array : (m : M) → means g m ≡ array_in (mem m) (life m))
    (is-wear : (m : M) → g.wear m ≡ sum (mem m).counts)
    (is-effect : (m : M) (i : ℕ) (v : Load) (n : M) → ((t : ℕ) → g.effect m i v (Ok t) n → mem n ≡ memory_accepted (mem m) (Write i v)) × ((d : Denial) → g.effect m i v (Err d) n → mem n ≡ mem m)) where
  memory_denied : (m : M) (c : Call Load) (d : Denial) → denied_by (means g m) c ≡ Some d → memory_next (mem m) (life m) c ≡ mem m
  unfolding memory_next
  memory_denied m c d h =
      let h' : denied_by (array_in (mem m) (life m)) c ≡ Some d = ap (λ (a : Array Load). denied_by a c) (sym (is-array m)) ∙ h in
      ap (λ o. unless_denied o (memory_accepted (mem m) c) (mem m)) h'

  memory_done : (m : M) (c : Call Load) → denied_by (means g m) c ≡ None → memory_next (mem m) (life m) c ≡ memory_accepted (mem m) c
  unfolding memory_next
  memory_done m c h =
      let h' : denied_by (array_in (mem m) (life m)) c ≡ None = ap (λ (a : Array Load). denied_by a c) (sym (is-array m)) ∙ h in
      ap (λ o. unless_denied o (memory_accepted (mem m) c) (mem m)) h'

  memory_read : (m : M) (i : ℕ) → memory_next (mem m) (life m) (Read i) ≡ mem m
  unfolding memory_next
  memory_read m i = elim (denied_by (array_in (mem m) (life m)) (Read i)) as (λ o. unless_denied o (mem m) (mem m) ≡ mem m) [ None ↦ refl | Some d ↦ refl ]

  -- ---- one write
  life_after : (m n : M) (i : ℕ) (v : Load) (t : Result ℕ Denial) → WriteStep g m i v t n → life n ≡ life m
  life_after m n i v t s =
      let life_in : (x : M) → (means g x).life ≡ life x = λ x. ap (λ (a : Array Load). a.life) (is-array x) in
      sym (life_in n) ∙ ap (λ (a : Array Load). a.life) s.answer.array ∙ next_life (means g m) (Write i v) ∙ life_in m

  memory_written : (m n : M) (i : ℕ) (v : Load) (t : Result ℕ Denial) → WriteStep g m i v t n → mem n ≡ memory_next (mem m) (life m) (Write i v)
  memory_written m n i v (Ok t) s = (is-effect m i v n).0 t s.effect ∙ sym (memory_done m (Write i v) s.answer.answer.0)
  memory_written m n i v (Err d) s = (is-effect m i v n).1 d s.effect ∙ sym (memory_denied m (Write i v) d s.answer.answer.0)

  write_toll : (m n : M) (i : ℕ) (v : Load) (t : ℕ) → WriteStep g m i v (Ok t) n → t ≡ 1
  write_toll m n i v t s =
      let taken_in : (x : M) → (means g x).taken ≡ g.wear x = λ x. ap (λ (b : Array Load). b.taken) (is-array x) ∙ sym (is-wear x) in
      let more : (means g n).taken ≡ (means g m).taken + 1 =
      ap (λ (b : Array Load). b.taken) (s.answer.array ∙ next_accepted (means g m) (Write i v) s.answer.answer.0) in
      one_toll t (g.wear m) (g.wear n) (means g m).taken s.answer.answer.1.0 s.answer.answer.1.1 (sym (taken_in n) ∙ more) (sym (taken_in m))

  write_answered : (m n : M) (i : ℕ) (v : Load) (t : Result ℕ Denial) → WriteStep g m i v t n → write_answer t ≡ byte_answer (reply (means g m) (Write i v))
  write_answered m n i v (Ok t) s =
      ap (λ (k : ℕ). write_answer {A = Load} (Ok k)) (write_toll m n i v t s) ∙ sym (ap (λ (o : Option Denial). byte_answer (write_reply o)) s.answer.answer.0)
  write_answered m n i v (Err d) s = sym (ap (λ (o : Option Denial). byte_answer (write_reply o)) s.answer.answer.0)

  -- ---- calls in turn
  pub play_memory : (m : M) (cs : List (Call Load)) (rs : List (Answer Load)) (n : M) → InTurn g m cs rs n → (mem n ≡ memory_after (mem m) (life m) cs) × (life n ≡ life m)
  unfolding InTurn memory_after
  play_memory m [] [] n h = (ap mem h, ap life h)
  play_memory m [] (_ ∷ _) n h = elim h [ ]
  play_memory m (_ ∷ _) [] n h = elim h [ ]
  play_memory m (Read i ∷ cs) (r ∷ rs) n h =
      let k = play_memory m cs rs n h.1 in
      (k.0 ∙ ap (λ (x : Memory). memory_after x (life m) cs) (sym (memory_read m i)), k.1)
  play_memory m (Write i v ∷ cs) (r ∷ rs) n h =
      let s = h.1.0.1.1 in
      let k = play_memory h.0 cs rs n h.1.1 in
      let e = memory_written m h.0 i v h.1.0.0 s in
      let l = life_after m h.0 i v h.1.0.0 s in
      (k.0 ∙ ap (λ (x : Memory). memory_after x (life h.0) cs) e ∙ ap (λ (x : ℕ). memory_after (memory_next (mem m) (life m) (Write i v)) x cs) l, k.1 ∙ l)

  pub play_answers : (m : M) (cs : List (Call Load)) (rs : List (Answer Load)) (n : M) → InTurn g m cs rs n → rs ≡ map byte_answer (replies (means g m) cs)
  unfolding InTurn replies
  play_answers m [] [] n h = refl
  play_answers m [] (_ ∷ _) n h = elim h [ ]
  play_answers m (_ ∷ _) [] n h = elim h [ ]
  play_answers m (Read i ∷ cs) (r ∷ rs) n h =
      let a : Array Load = means g m in
      let k = play_answers m cs rs n h.1 ∙ ap (λ (b : Array Load). map byte_answer (replies b cs)) (sym (next_read a i)) in
      ap (λ (x : Answer Load). x ∷ rs) (read_answered (fetched a.lines i) r h.0) ∙ ap (λ (l : List (Answer Load)). byte_answer (reply a (Read i)) ∷ l) k
  play_answers m (Write i v ∷ cs) (r ∷ rs) n h =
      let a : Array Load = means g m in
      let s = h.1.0.1.1 in
      let k = play_answers h.0 cs rs n h.1.1 ∙ ap (λ (b : Array Load). map byte_answer (replies b cs)) s.answer.array in
      ap (λ (x : Answer Load). x ∷ rs) (h.1.0.1.0 ∙ write_answered m h.0 i v h.1.0.0 s) ∙ ap (λ (l : List (Answer Load)). byte_answer (reply a (Write i v)) ∷ l) k

  pub play_array : (m : M) (cs : List (Call Load)) (rs : List (Answer Load)) (n : M) → InTurn g m cs rs n → means g n ≡ after (means g m) cs
  unfolding InTurn after
  play_array m [] [] n h = ap (means g) h
  play_array m [] (_ ∷ _) n h = elim h [ ]
  play_array m (_ ∷ _) [] n h = elim h [ ]
  play_array m (Read i ∷ cs) (r ∷ rs) n h = play_array m cs rs n h.1 ∙ ap (λ (a : Array Load). after a cs) (sym (next_read (means g m) i))
  play_array m (Write i v ∷ cs) (r ∷ rs) n h = play_array h.0 cs rs n h.1.1 ∙ ap (λ (a : Array Load). after a cs) h.1.0.1.1.answer.array

  -- the whole, from memory m₀ on
  pub bytes_run : (m : M) (cs : List (Call Load)) (rs : List (Answer Load)) (n : M) (m₀ : Memory) (life₀ : ℕ) → mem m ≡ m₀ → life m ≡ life₀ → InTurn g m cs rs n
      → (rs ≡ map byte_answer (replies (array_in m₀ life₀) cs)) × (mem n ≡ memory_after m₀ life₀ cs) × (means g n ≡ after (array_in m₀ life₀) cs) × (array_in (memory_after m₀ life₀ cs) life₀ ≡ after (array_in m₀ life₀) cs)
  bytes_run m cs rs n m₀ life₀ em el h =
      let a : means g m ≡ array_in m₀ life₀ = is-array m ∙ ap (λ (x : Memory). array_in x (life m)) em ∙ ap (λ (x : ℕ). array_in m₀ x) el in
      let p = play_memory m cs rs n h in
      let k : mem n ≡ memory_after m₀ life₀ cs = p.0 ∙ ap (λ (x : Memory). memory_after x (life m) cs) em ∙ ap (λ (x : ℕ). memory_after m₀ x cs) el in
      let b : means g n ≡ after (array_in m₀ life₀) cs = play_array m cs rs n h ∙ ap (λ (x : Array Load). after x cs) a in (
        play_answers m cs rs n h ∙ ap (λ (x : Array Load). map byte_answer (replies x cs)) a,
        k,
        b,
        ap (λ (x : Memory). array_in x life₀) (sym k) ∙ ap (λ (x : ℕ). array_in (mem n) x) (sym (p.1 ∙ el)) ∙ sym (is-array n) ∙ b,
      )

-- ---- the totals, as they are asked for
pub totals_are : (a : Array Load) (n k t d w : ℕ) → k ≡ n → t ≡ a.taken → d ≡ left a → w ≡ a.taken % 2 ^ 64 → t < 2 ^ 64
    → ◌≡◌ {A = Totals} (record { requests = k; taken = t; left = d; copies = 0; wear = w }) (byte_totals n a)
totals_are a n k t d w en et ed ew lt =
    let e : w ≡ a.taken = omega arith in
    let f : d ≡ a.life - a.taken = ed in
    cc

pub same_memory : (bs bs' cs cs' : List ℕ) → bs ≡ bs' → cs ≡ cs' → ◌≡◌ {A = Memory} (record { bytes = bs; counts = cs }) (record { bytes = bs'; counts = cs' })
same_memory bs bs' cs cs' e f = cc
