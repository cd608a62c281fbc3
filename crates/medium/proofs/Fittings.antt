-- Piles that are newly fitted. Registers that begin sound stay sound over every call, so each copy reads the place of the line that it
-- moves; the copies of gap regions are those of its accepted writes, which are even; and places lead from line to line down to the
-- bottom. Each is a recursion over the pile, and within a level an induction over the calls.
use Rattle.std.proofs.Common.{◌≡◌, ℕ, ◌+◌, ◌*◌, ◌/◌, ◌^◌, ◌<◌, ◌≤◌, true, false, cond, leb, ◌⊎◌, List, [], ◌∷◌, ◌++◌, length, get_or, is_err, Some, None, Ok, Err, Option, Result, sym, refl, ap, ◌∙◌, subst, inl, inr, ⊎_elim, arith}
use Rattle.std.proofs.lemmas.List.{length-set}
use Rattle.std.proofs.lemmas.Bool.{cases_lt}
use Rattle.std.specs.List.{AllByRecursion}
use Rattle.line.specs.declared.denial.Denial.{Denial}
use Rattle.line.specs.declared.denial.Denial.TheVariants.{NoSuchLine}
use Rattle.startgap.specs.Regions as startgap
use Rattle.startgap.specs.Regions.{Gaps, GapsSound, new_gaps, region_size, line_count, place_count, gap_place, gaps_copies, AllLines}
use Rattle.startgap.specs.Theorems.{Carries, Even, Fit}
use Rattle.startgap.proofs.Regions as regions
use Rattle.startgap.proofs.Runs as runs
use Rattle.startgap.proofs.Turns.{evenness}
use Rattle.startgap.proofs.Writes as gapwrites
use Rattle.refresh.specs.Refresh as refreshing
use Rattle.refresh.specs.Refresh.{Registers, place_of, new_registers}
use Rattle.refresh.specs.Theorems.{SoundRegisters}
use Rattle.refresh.proofs.Places as places
use Rattle.refresh.proofs.Refreshes as refreshes
use Rattle.refresh.proofs.Writes as writes
use Rattle.medium.specs.Array.{Array, unless_denied, denied_by, accepted, next, after, write_reply}
use Rattle.medium.specs.Law.{Lasts, copies_by, copied, Carried, EvenCopies, Evenly, left, New, Unfit, MadeOver, Fitted, deep, Leads}
use Rattle.medium.specs.Pile.{Layer, scatter, gaps, refresh, place, due_copies, turned, made, turned_by, layer_at, asks, Pile, bottom, over, bottom_array, placed_lines, paid_life}
use Rattle.medium.specs.declared.call.Call.{Call}
use Rattle.medium.specs.declared.call.Call.TheVariants.{Read, Write}
use Rattle.medium.proofs.Arrays.{accepts_write, denies_line, denies_life}
use Rattle.medium.proofs.Layers.{placed_in, placed_at, placed_length}
use Rattle.std.proofs.ByRecursion.{All-weaker}
use Rattle.medium.proofs.Piles.{taken_after}

-- ---- the array keeps its count and its life
pub next_keeps : {A : Type 0} (a : Array A) (c : Call A) → (length (next a c).lines ≡ length a.lines) × ((next a c).life ≡ a.life)
unfolding next
next_keeps a c =
    elim (denied_by a c) as (λ o. (length (unless_denied o (accepted a c) a).lines ≡ length a.lines) × ((unless_denied o (accepted a c) a).life ≡ a.life)) [
      | None ↦ elim c as (λ x. (length (accepted a x).lines ≡ length a.lines) × ((accepted a x).life ≡ a.life)) [ Read i ↦ (refl, refl) | Write i v ↦ (length-set a.lines i v, refl) ]
      | Some d ↦ (refl, refl)
    ]

pub after_keeps : {A : Type 0} (a : Array A) (cs : List (Call A)) → (length (after a cs).lines ≡ length a.lines) × ((after a cs).life ≡ a.life)
unfolding after
after_keeps a [] = (refl, refl)
after_keeps a (c ∷ cs) =
    let h = after_keeps (next a c) cs in
    let k = next_keeps a c in
    (h.0 ∙ k.0, h.1 ∙ k.1)

-- ---- writes are accepted until the life is used
pub lasts : {A : Type 0} (a : Array A) (cs : List (Call A)) → Lasts a cs
lasts {A} a cs =
    let k = after_keeps a cs in
    let k0 = k.0 in
    let k1 = k.1 in
    let t = taken_after a cs in
    record {
      taken = t;
      life = k1;
      until = λ i v h l. ap (write_reply {A = A}) (accepts_write (after a cs) i v (omega arith) (omega arith));
      none = λ i v h l. ap (write_reply {A = A}) (denies_life (after a cs) i v (omega arith) (omega arith));
    }

-- ---- accepted writes
which : (o : Option Denial) → (o ≡ None) ⊎ ((d : Denial) × (o ≡ Some d))
which None = inl refl
which (Some d) = inr (d, refl)

some_none : (d : Denial) → ◌≡◌ {A = Option Denial} (Some d) None → ⊥
some_none d h = let z : ◌≡◌ {A = ℕ} 0 1 = cc in omega arith

-- a write that is accepted is to a line that there is
accepted_below : {A : Type 0} (a : Array A) (i : ℕ) (v : A) → denied_by a (Write i v) ≡ None → i < length a.lines
accepted_below a i v h =
    ⊎_elim (λ k. k) (λ k. absurd (some_none NoSuchLine (sym (denies_line a i v k) ∙ h))) (cases_lt i (length a.lines))

-- the lines of the accepted writes, in order
line_by : {A : Type 0} → Call A → List ℕ
line_by (Read i) = []
line_by (Write i v) = i ∷ []

unfoldable written_lines : {A : Type 0} → Array A → List (Call A) → List ℕ
written_lines a [] = []
written_lines a (c ∷ cs) = unless_denied (denied_by a c) (line_by c) [] ++ written_lines (next a c) cs

all_append : (P : ℕ → Type 0) (xs ys : List ℕ) → AllByRecursion P xs → AllByRecursion P ys → AllByRecursion P (xs ++ ys)
all_append P [] ys h k = k
all_append P (x ∷ xs) ys h k = (h.0, all_append P xs ys h.1 k)

line_below : {A : Type 0} (a : Array A) (c : Call A) (n : ℕ) → length a.lines ≡ n → AllByRecursion (λ i. i < n) (unless_denied (denied_by a c) (line_by c) [])
unfolding line_by
line_below a (Read i) n e = elim (denied_by a (Read i)) as (λ o. AllByRecursion (λ j. j < n) (unless_denied o [] [])) [ None ↦ tt | Some d ↦ tt ]
line_below a (Write i v) n e =
    ⊎_elim
    (λ (h : denied_by a (Write i v) ≡ None).
    let l = accepted_below a i v h in
    let P : Option Denial → Type 0 = λ o. AllByRecursion (λ j. j < n) (unless_denied o (i ∷ []) []) in
    subst P (sym h) (omega arith, tt))
    (λ (h : (d : Denial) × (denied_by a (Write i v) ≡ Some d)).
    let P : Option Denial → Type 0 = λ o. AllByRecursion (λ j. j < n) (unless_denied o (i ∷ []) []) in subst P (sym h.1) tt)
    (which (denied_by a (Write i v)))

lines_below : {A : Type 0} (a : Array A) (cs : List (Call A)) (n : ℕ) → length a.lines ≡ n → AllByRecursion (λ i. i < n) (written_lines a cs)
unfolding written_lines
lines_below a [] n e = tt
lines_below a (c ∷ cs) n e = all_append (λ i. i < n) _ _ (line_below a c n e) (lines_below (next a c) cs n ((next_keeps a c).0 ∙ e))

-- ---- the copies of gap regions are those of its accepted writes
copied_gaps : {A : Type 0} (g : Gaps) (a : Array A) (cs : List (Call A)) → copied (gaps g) a cs ≡ gaps_copies g (written_lines a cs)
unfolding copied gaps_copies written_lines layer_at line_by
copied_gaps g a [] = refl
copied_gaps {A} g a (Read i ∷ cs) =
    elim (denied_by a (Read i)) as (λ o. unless_denied o [] [] ++ copied (unless_denied o (gaps g) (gaps g)) (next a (Read i)) cs ≡ gaps_copies g (unless_denied o [] [] ++ written_lines (next a (Read i)) cs))
    [ None ↦ copied_gaps g (next a (Read i)) cs | Some d ↦ copied_gaps g (next a (Read i)) cs ]
copied_gaps {A} g a (Write i v ∷ cs) =
    elim (denied_by a (Write i v))
    as (λ o. unless_denied o (startgap.write_copies g i) [] ++ copied (unless_denied o (gaps (startgap.after_write g i)) (gaps g)) (next a (Write i v)) cs
    ≡ gaps_copies g (unless_denied o (i ∷ []) [] ++ written_lines (next a (Write i v)) cs))
    [ None ↦ ap (λ ks. startgap.write_copies g i ++ ks) (copied_gaps (startgap.after_write g i) (next a (Write i v)) cs) | Some d ↦ copied_gaps g (next a (Write i v)) cs ]

-- ---- registers that are sound for an array of n lines
abbrev SoundFor : Layer → ℕ → Type 0
SoundFor (scatter m f) n = Unit {0}
SoundFor (gaps g) n = GapsSound g × (n ≡ line_count g)
SoundFor (refresh g) n = SoundRegisters g × (n ≡ g.size)

turned_sound : (s : Layer) (n i : ℕ) → i < n → SoundFor s n → SoundFor (turned s i) n
unfolding refreshing.after_write
turned_sound (scatter m f) n i h k = tt
turned_sound (gaps g) n i h k =
    let r = runs.write_regions g i in
    let z = runs.write_size g i in
    let e : line_count g ≡ line_count (startgap.after_write g i) = ap (λ x. x * g.size) (sym r) ∙ ap (λ x. (startgap.after_write g i).regions * x) (sym z) in
    let k1 = k.1 in
    (gapwrites.write_sound g k.0 i (omega arith), k.1 ∙ e)
turned_sound (refresh g) n i h k = (writes.write_sound g k.0, k.1)

turned_by_sound : {A : Type 0} (s : Layer) (a : Array A) (c : Call A) → denied_by a c ≡ None → SoundFor s (length a.lines) → SoundFor (turned_by s c) (length a.lines)
turned_by_sound s a (Read i) h k = k
turned_by_sound s a (Write i v) h k = turned_sound s (length a.lines) i (accepted_below a i v h) k

layer_sound : {A : Type 0} (s : Layer) (a : Array A) (c : Call A) → SoundFor s (length a.lines) → SoundFor (layer_at s a c) (length (next a c).lines)
unfolding layer_at
layer_sound s a c k =
    let n : ℕ = length a.lines in
    let e = (next_keeps a c).0 in
    let here : SoundFor (unless_denied (denied_by a c) (turned_by s c) s) n =
    ⊎_elim
    (λ (h : denied_by a c ≡ None). subst (λ o. SoundFor (unless_denied o (turned_by s c) s) n) (sym h) (turned_by_sound s a c h k))
    (λ (h : (d : Denial) × (denied_by a c ≡ Some d)). subst (λ o. SoundFor (unless_denied o (turned_by s c) s) n) (sym h.1) k)
    (which (denied_by a c)) in
    subst (λ m. SoundFor (unless_denied (denied_by a c) (turned_by s c) s) m) (sym e) here

-- ---- each copy reads the place of the line that it moves
exchange_reads : (g : Registers) → g.round.pointer < refreshing.pointer_mate g.round → AllByRecursion (λ k. place_of g.round k.moved ≡ k.from) (refreshing.exchange g.round)
exchange_reads g h = (refreshes.mate_before g.round h, (refreshes.line_before g.round h, tt))

write_reads : (s : Layer) (n i : ℕ) → i < n → SoundFor s n → AllByRecursion (λ k. place s k.moved ≡ k.from) (due_copies s i)
write_reads (scatter m f) n i h k = tt
write_reads (gaps g) n i h k =
    let k1 = k.1 in
    All-weaker (Carries g (i / g.size)) (λ c. gap_place g c.moved ≡ c.from) (λ c q. q.reads) (startgap.write_copies g i) (runs.write_carries g k.0 i (omega arith))
write_reads (refresh g) n i h k =
    ⊎_elim
    (λ (w : g.due + 1 < g.interval). subst (λ ks. AllByRecursion (λ c. place_of g.round c.moved ≡ c.from) ks) (sym (writes.write_waits g w).1) tt)
    (λ (w : g.interval ≤ g.due + 1).
    subst (λ ks. AllByRecursion (λ c. place_of g.round c.moved ≡ c.from) ks) (sym (writes.write_refreshes g w).1)
    (⊎_elim
    (λ (m : g.round.pointer < refreshing.pointer_mate g.round). subst (λ ks. AllByRecursion (λ c. place_of g.round c.moved ≡ c.from) ks) (sym (refreshes.copies_two g.round m)) (exchange_reads g m))
    (λ (m : refreshing.pointer_mate g.round ≤ g.round.pointer). subst (λ ks. AllByRecursion (λ c. place_of g.round c.moved ≡ c.from) ks) (sym (refreshes.copies_none g.round m)) tt)
    (cases_lt g.round.pointer (refreshing.pointer_mate g.round))))
    (cases_lt (g.due + 1) g.interval)

call_reads : {A : Type 0} (s : Layer) (a : Array A) (c : Call A) → SoundFor s (length a.lines) → denied_by a c ≡ None → AllByRecursion (λ k. place s k.moved ≡ k.from) (copies_by s c)
call_reads s a (Read i) k h = tt
call_reads s a (Write i v) k h = write_reads s (length a.lines) i (accepted_below a i v h) k

carried : {A : Type 0} (s : Layer) (a : Array A) (cs : List (Call A)) → SoundFor s (length a.lines) → Carried s a cs
unfolding Carried
carried s a [] k = tt
carried s a (c ∷ cs) k = (call_reads s a c k, carried (layer_at s a c) (next a c) cs (layer_sound s a c k))

-- a layer without lines copies nothing
idle_reads : {A : Type 0} (s : Layer) (a : Array A) (c : Call A) → length a.lines ≡ 0 → denied_by a c ≡ None → AllByRecursion (λ k. place s k.moved ≡ k.from) (copies_by s c)
idle_reads s a (Read i) e h = tt
idle_reads s a (Write i v) e h = let l = accepted_below a i v h in absurd (omega arith)

idle_carried : {A : Type 0} (s : Layer) (a : Array A) (cs : List (Call A)) → length a.lines ≡ 0 → Carried s a cs
unfolding Carried
idle_carried s a [] e = tt
idle_carried s a (c ∷ cs) e = (idle_reads s a c e, idle_carried (layer_at s a c) (next a c) cs ((next_keeps a c).0 ∙ e))

no_lines : (is : List ℕ) → AllByRecursion (λ i. i < 0) is → is ≡ []
no_lines [] h = refl
no_lines (i ∷ is) h = let l = h.0 in absurd (omega arith)

even_none : (g : Gaps) → Even g []
even_none g = record { lines = λ i j h k e. omega arith; places = λ p q h k e. omega arith }

idle_even : {A : Type 0} (s : Layer) (a : Array A) (cs : List (Call A)) → length a.lines ≡ 0 → EvenCopies s (copied s a cs)
unfolding gaps_copies
idle_even (scatter n f) a cs e = tt
idle_even (gaps g) a cs e =
    let z : copied (gaps g) a cs ≡ [] = copied_gaps g a cs ∙ ap (gaps_copies g) (no_lines (written_lines a cs) (lines_below a cs 0 e)) in
    subst (Even g) (sym z) (even_none g)
idle_even (refresh g) a cs e = tt

sound_even : {A : Type 0} (s : Layer) (a : Array A) (cs : List (Call A)) → SoundFor s (length a.lines) → EvenCopies s (copied s a cs)
sound_even (scatter n f) a cs k = tt
sound_even (gaps g) a cs k = subst (Even g) (sym (copied_gaps g a cs)) (evenness g k.0 (written_lines a cs) (lines_below a cs (line_count g) k.1))
sound_even (refresh g) a cs k = tt

-- ---- a layer that is newly fitted
-- its places, of n lines over what it needs
pub record Placing {A : Type 0} (s : Layer) (a b : Array A) : Type 0 where
  pub count : ℕ
  pub need : ℕ
  pub stays : (i : ℕ) → i < count → place s i < need
  pub wide : need ≤ length b.lines
  pub lines : a.lines ≡ placed_lines count need (place s) b.lines
  pub sound : SoundFor s (length a.lines)

pub new_placing : {A : Type 0} (s : Layer) (a b : Array A) → New s a b → Placing s a b
new_placing (scatter n f) a b h = record { count = n; need = n; stays = h.stays; wide = h.wide; lines = h.lines; sound = tt }
new_placing (gaps g) a b h =
    let size = ap (λ (x : Gaps). x.size) h.new in
    let e = h.new in
    let sz = regions.sizes (length b.lines) g.regions (omega (arith, h.some)) h.wide in
    let fit : Fit g.regions (region_size (length b.lines) g.regions) g.interval = record { few = h.few; sized = sz.0; paced = omega (arith, h.paced) } in
    let sound : GapsSound g = subst GapsSound (sym e) (regions.new_sound _ _ _ fit) in
    let stays : (i : ℕ) → i < line_count g → gap_place g i < place_count g = λ i l. regions.place_within g sound i l in
    let wide : place_count g ≤ length b.lines = subst (λ k. g.regions * (k + 1) ≤ length b.lines) (sym size) sz.1 in
    record {
      count = line_count g;
      need = place_count g;
      stays = stays;
      wide = wide;
      lines = h.lines;
      sound = (sound, ap length h.lines ∙ placed_length (line_count g) (place_count g) (gap_place g) stays b.lines wide);
    }
new_placing (refresh g) a b h =
    let e = h.new in
    let z : 0 < g.size = omega (arith, h.wide) in
    let sound : SoundRegisters g = subst SoundRegisters (sym e) (writes.new_sound _ _ _ h.size.power z h.paced h.keys.0) in
    let stays : (i : ℕ) → i < g.size → place_of g.round i < g.size =
    λ i l.
    let p = sound.round.power in
    let below : place_of g.round i < 2 ^ p.0 =
    places.place_below p.0 g.round (subst (λ n. g.round.previous < n) p.1 sound.round.previous) (subst (λ n. g.round.current < n) p.1 sound.round.current) i (subst (λ n. i < n) p.1 l) in
    subst (λ n. place_of g.round i < n) (sym p.1) below in
    record {
      count = g.size;
      need = g.size;
      stays = stays;
      wide = h.size.within;
      lines = h.lines;
      sound = (sound, ap length h.lines ∙ placed_length g.size g.size (place_of g.round) stays b.lines h.size.within);
    }

-- ---- the whole pile
no_length : {A : Type 0} (a : Array A) → Unfit a → length a.lines ≡ 0
no_length a h = ap (λ x. length x.lines) h

pub evenly : {A : Type 0} (p : Pile A) (a : Array A) (w : ℕ) (cs : List (Call A)) → Fitted a w p → Evenly p a cs
unfolding Fitted Evenly
evenly bottom a w cs h = tt
evenly (over s b u t) a w cs h =
    let below = evenly t b u (asks s a cs) h.2 in
    ⊎_elim
    (λ (k : New s a b). let p = new_placing s a b k in (sound_even s a cs p.sound, carried s a cs p.sound, below))
    (λ (k : Unfit a). (idle_even s a cs (no_length a k), idle_carried s a cs (no_length a k), below))
    h.0

leads_over : {A : Type 0} (s : Layer) (a b : Array A) (u : ℕ) (t : Pile A) → Placing s a b → Leads b t → Leads a (over s b u t)
unfolding deep bottom_array
leads_over {A} s a b u t p h i l =
    let l' : i < length (placed_lines p.count p.need (place s) b.lines) = subst (λ ls. i < length ls) p.lines l in
    let q = placed_in p.count p.need (place s) p.stays b.lines i l' in
    let wide = p.wide in
    let st = p.stays i q.0 in
    let k = h (place s i) (omega arith) in
    (k.0, λ d. ap (λ ls. get_or ls i d) p.lines ∙ placed_at p.count p.need (place s) p.stays b.lines i d wide q.0 ∙ k.1 d)

pub leads : {A : Type 0} (p : Pile A) (a : Array A) (w : ℕ) → Fitted a w p → Leads a p
unfolding Fitted deep bottom_array
leads bottom a w h = λ i l. (l, λ d. refl)
leads (over s b u t) a w h =
    ⊎_elim
    (λ (k : New s a b). leads_over s a b u t (new_placing s a b k) (leads t b u h.2))
    (λ (k : Unfit a). λ i l. let z = no_length a k in absurd (omega arith))
    h.0

-- ---- makings
pub made_fit : {A : Type 0} (r : Result (Unit {0}) Denial) (s : Layer) (b : Array A) (u : ℕ) (t p : Pile A) (a : Array A) (w : ℕ)
    → is_err r ≡ false → p ≡ over s b u t → New s a b → w ≡ u → MadeOver r s b u t p a w
made_fit (Ok x) s b u t p a w h e n l = (e, n, l)
made_fit (Err d) s b u t p a w h e n l = let z : ◌≡◌ {A = ℕ} 0 1 = cc in absurd (omega arith)

pub made_unfit : {A : Type 0} (r : Result (Unit {0}) Denial) (s q : Layer) (b : Array A) (u : ℕ) (t p : Pile A) (a : Array A) (w : ℕ)
    → is_err r ≡ true → made q ≡ 0 → p ≡ over q b u t → Unfit a → w ≡ u → MadeOver r s b u t p a w
made_unfit (Ok x) s q b u t p a w h z₀ e n l = let z : ◌≡◌ {A = ℕ} 0 1 = cc in absurd (omega arith)
made_unfit (Err d) s q b u t p a w h z₀ e n l = ((q, (z₀, e)), n, l)

-- no lines are placed where there are none to place
pub placed_nothing : {A : Type 0} (need : ℕ) (f : ℕ → ℕ) (ls : List A) → placed_lines 0 need f ls ≡ []
unfolding placed_lines
placed_nothing {A} need f ls = elim (leb need (length ls)) as (λ b. cond {A = List A} b [] [] ≡ []) [ true ↦ refl | false ↦ refl ]

pub paid_nothing : (cost left : ℕ) → paid_life 0 0 cost left ≡ 0
unfolding paid_life
paid_nothing cost left = elim (leb cost left) as (λ b. ◌≡◌ {A = ℕ} (cond b 0 0) 0) [ true ↦ refl | false ↦ refl ]

-- an unfit layer
pub unfit_means : {A : Type 0} (need cost l : ℕ) (f : ℕ → ℕ) (ls : List A)
    → Unfit {A = A} (record { lines = placed_lines 0 need f ls; taken = 0; life = paid_life 0 0 cost l })
unfit_means {A} need cost l f ls =
    ap (λ (x : List A). record { lines = x; taken = 0; life = paid_life 0 0 cost l }) (placed_nothing need f ls)
    ∙ ap (λ (x : ℕ). record { lines = []; taken = 0; life = x }) (paid_nothing cost l)

-- a layer that was made, fit or not, over a pile that is newly fitted makes one
pub fitted_over : {A : Type 0} (r : Result (Unit {0}) Denial) (s : Layer) (b : Array A) (u : ℕ) (t p : Pile A) (a : Array A) (w : ℕ)
    → MadeOver r s b u t p a w → Fitted b u t → Fitted a w p
unfolding Fitted
fitted_over (Ok x) s b u t p a w m f = subst (Fitted a w) (sym m.0) (inl m.1, m.2, f)
fitted_over (Err d) s b u t p a w m f = subst (Fitted a w) (sym m.0.1.1) (inr m.1, m.2, f)

-- the same by its parts: a layer that is newly fitted, and one that is unfit
pub fitted_new : {A : Type 0} (s : Layer) (b : Array A) (u : ℕ) (t p : Pile A) (a : Array A) (w : ℕ) → p ≡ over s b u t → New s a b → w ≡ u → Fitted b u t → Fitted a w p
unfolding Fitted
fitted_new s b u t p a w e n l f = subst (Fitted a w) (sym e) (inl n, l, f)

pub fitted_none : {A : Type 0} (s : Layer) (b : Array A) (u : ℕ) (t p : Pile A) (a : Array A) (w : ℕ) → p ≡ over s b u t → Unfit a → w ≡ u → Fitted b u t → Fitted a w p
unfolding Fitted
fitted_none s b u t p a w e n l f = subst (Fitted a w) (sym e) (inr n, l, f)
