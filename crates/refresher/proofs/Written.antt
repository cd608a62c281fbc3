-- What a read or a write of the layer comes to. Before an accepted write what is left below pays for it and for its copies, so nothing
-- that is asked below is denied; after it the lines are those before with one replaced, and what is paid for is what was, since a write
-- and each copy count alike on both sides.
use Rattle.std.proofs.Common.{◌≡◌, ℕ, ◌+◌, ◌-◌, ◌/◌, ◌%◌, ◌^◌, ◌<◌, ◌≤◌, ◌⊎◌, List, [], ◌∷◌, ◌++◌, length, get_or, set, Some, None, Ok, Err, sym, refl, ap, ◌∙◌, subst, inl, inr, ⊎_elim, arith}
use Rattle.std.proofs.lemmas.Bool.{cases_lt}
use Rattle.std.proofs.lemmas.Bool.Decides.{nat_tests}
use Rattle.std.proofs.lemmas.List.{length-set}
use Rattle.line.specs.declared.denial.Denial.{Denial}
use Rattle.refresh.specs.Refresh.{Registers, pointer_mate, previous_place, current_place, place_of, write_copies, after_write, refreshed, Sound}
use Rattle.refresh.proofs.Refreshes.{line_before, mate_before}
use Rattle.refresh.proofs.Writes.{write_waits, write_no_exchange, write_exchanges}
use Rattle.medium.specs.Array.{Array, denied_by, fetched, Wrote}
use Rattle.medium.specs.Chain.{WriteStep, Chained}
use Rattle.medium.specs.Law.{left}
use Rattle.medium.specs.Meaning.{means}
use Rattle.medium.specs.Pile.{refresh, reads_of, writes_of, requests, Pile, over, Served, placed_lines, paid_life}
use Rattle.medium.specs.declared.call.Call.TheVariants.{Read, Write}
use Rattle.medium.specs.declared.medium.Medium.{Ghosts}
use Rattle.medium.proofs.Arrays.{accepts_read, accepts_write, next_accepted, fetched_by, wrote_accepted}
use Rattle.medium.proofs.Chains.{chained_none, chained_read, chained_write}
use Rattle.medium.proofs.Layers.{placed_in, placed_at, fetched_same, fetched_is, paid_yes, paid_below, Asked, asked_read, asked_write, asked_more, layer_accepted}
use Rattle.refresher.specs.Layer.{registers, due_exchange, refresh_lines, refresh_life, refresh_array, place_answer}
use Rattle.refresher.specs.declared.layer.RefreshLayer.{RefreshLayer}
use Rattle.refresher.specs.declared.registers.Exchange.{Exchange}
use Rattle.refresher.proofs.Held.{Held, held_of, held_sound, pays_write, pays_exchange}
use Rattle.refresher.proofs.Lines.{place_stays, mate_stays, previous_stays, current_stays, lines_set, lines_unexchanged, lines_exchanged}

-- what the answer on a place says
pub placed : {A : Type 0} (g : Registers) (b : Array A) (i p : ℕ) → Ok p ≡ place_answer g b i → (i < length (refresh_lines g b)) × (p ≡ place_of g.round i)
placed g b i p e = grind (arith, nat_tests)

pub not_placed : {A : Type 0} (g : Registers) (b : Array A) (i : ℕ) (d : Denial) → Err d ≡ place_answer g b i → length (refresh_lines g b) ≤ i
not_placed g b i d e = grind (arith, nat_tests)

pub fetched_never : {A : Type 0} (ls : List A) (i : ℕ) (d : Denial) → i < length ls → Err d ≡ fetched ls i → ⊥
fetched_never [] i d h q = omega arith
fetched_never (x ∷ xs) i d h q =
    let k = fetched_by (x ∷ xs) i (get_or (x ∷ xs) i x) x h refl in
    let z : ◌≡◌ {A = ℕ} 0 1 = cc in
    omega arith

-- ---- the exchange that is due, if one is
-- one is due, between the places p and c
pub record Exchanges (g : Registers) (p c : ℕ) : Type 0 where
  pub due : g.interval ≤ g.due + 1
  pub above : g.round.pointer < pointer_mate g.round
  pub previous : p ≡ previous_place g.round
  pub current : c ≡ current_place g.round

pub exchange_some : (g : Registers) (o : Exchange) → due_exchange g ≡ Some o → Exchanges g o.previous o.current
exchange_some g o e = ⊎_elim
    (λ (d : g.due + 1 < g.interval). absurd (grind (arith, e)))
    (λ (d : g.interval ≤ g.due + 1). ⊎_elim
    (λ (m : g.round.pointer < pointer_mate g.round). record { due = d; above = m; previous = grind (arith, e); current = grind (arith, e) })
    (λ (m : pointer_mate g.round ≤ g.round.pointer). absurd (grind (arith, e)))
    (cases_lt g.round.pointer (pointer_mate g.round)))
    (cases_lt (g.due + 1) g.interval)

exchange_none : (g : Registers) → due_exchange g ≡ None → (g.due + 1 < g.interval) ⊎ ((g.interval ≤ g.due + 1) × (pointer_mate g.round ≤ g.round.pointer))
exchange_none g e = ⊎_elim
    (λ (d : g.due + 1 < g.interval). inl d)
    (λ (d : g.interval ≤ g.due + 1). ⊎_elim
    (λ (m : g.round.pointer < pointer_mate g.round). absurd (grind (arith, e)))
    (λ (m : pointer_mate g.round ≤ g.round.pointer). inr (d, m))
    (cases_lt g.round.pointer (pointer_mate g.round)))
    (cases_lt (g.due + 1) g.interval)

-- ---- lines that there are
pub held_stays : {g : Registers} {taken life : ℕ} → Held g taken life → (a : ℕ) → a < g.size → place_of g.round a < g.size
held_stays {g} held a h = place_stays g.size g.keys g.round (held_sound held (omega arith)) a h

module _ {A : Type 0} {g : Registers} {taken life : ℕ} (held : Held g taken life) (b : Array A) (i : ℕ) (h : i < length (refresh_lines g b)) where
  line_in : (i < g.size) × (g.size ≤ length b.lines)
  line_in = placed_in g.size g.size (place_of g.round) (held_stays held) b.lines i h

  place_in : place_of g.round i < length b.lines
  place_in = let q = line_in in let l = held_stays held i q.0 in let m = q.1 in omega arith

  -- ---- a read
  pub read_answer : (p : ℕ) → p ≡ place_of g.round i → fetched b.lines p ≡ fetched (refresh_lines g b) i
  read_answer p e =
      let q = line_in in
      ap (λ x. fetched b.lines x) e
      ∙ fetched_same (refresh_lines g b) b.lines i (place_of g.round i) h place_in
      (λ d. placed_at g.size g.size (place_of g.round) (held_stays held) b.lines i d q.1 q.0)

  pub read_served : (u : ℕ) (t : Pile A) (p : ℕ) → p ≡ place_of g.round i → Served t b u (Read p ∷ []) t u
      → Served (over (refresh g) b u t) (refresh_array g life taken b) u (Read i ∷ []) (over (refresh g) b u t) u
  read_served u t p e s =
      layer_accepted (refresh g) (refresh g) b b u u t t (refresh_array g life taken b) (Read i) (accepts_read _ i h) refl
      (asked_read b u t (place_of g.round i) place_in (subst (λ x. Served t b u (Read x ∷ []) t u) e s))

-- ---- a write of line i that is accepted
pub record Ready {A : Type 0} (g : Registers) (taken life : ℕ) (b : Array A) (i : ℕ) : Type 0 where
  pub held : Held g taken life
  pub line : i < length (refresh_lines g b)
  pub lives : taken < refresh_life g life taken b

pub ready_of : {X A : Type 0} (x : RefreshLayer X) (b : Array A) (i : ℕ) → i < length (refresh_lines (registers x.registers) b)
    → x.taken < refresh_life (registers x.registers) x.life x.taken b → Ready (registers x.registers) x.taken x.life b i
ready_of x b i line lives = record { held = held_of x; line = line; lives = lives }

module _ {A : Type 0} {g : Registers} {taken life : ℕ} {b : Array A} {i : ℕ} (ready : Ready g taken life b i) where
  pub ready_size : 0 < g.size
  ready_size = let k = (line_in ready.held b i ready.line).0 in omega arith

  ready_paid : (life + life / g.interval + g.size / 2 ≤ taken + g.copies + left b) × (refresh_life g life taken b ≡ life)
  ready_paid = paid_below life taken (life + life / g.interval + g.size / 2) (taken + g.copies + left b) ready.lives

  pub ready_lives : taken < life
  ready_lives = let e = ready_paid.1 in let l = ready.lives in omega arith

  left_one : 1 ≤ left b
  left_one = pays_write ready.held ready_size ready_lives (left b) ready_paid.0

  left_three : g.interval ≤ g.due + 1 → g.round.pointer < pointer_mate g.round → 3 ≤ left b
  left_three d m = pays_exchange ready.held ready_size ready_lives (left b) ready_paid.0 d m

  sound : Sound g.size g.keys g.round
  sound = held_sound ready.held ready_size

  pub first_accepts : (p : ℕ) (v : A) → p ≡ place_of g.round i → denied_by b (Write p v) ≡ None
  first_accepts p v e =
      let q = place_in ready.held b i ready.line in
      let k = left_one in
      accepts_write b p v (omega arith) (omega arith)

-- what an accepted write makes of an array
written_is : {A : Type 0} {b b' : Array A} {u u' p : ℕ} {v : A} {x : ℕ} → Wrote b u p v b' u' (Ok x) → b' ≡ record { lines = set b.lines p v; taken = b.taken + 1; life = b.life }
written_is {b = b} {p = p} {v = v} w = w.array ∙ next_accepted b (Write p v) w.answer.0

pub after_keeps : (g : Registers) → ((after_write g).interval ≡ g.interval) × ((after_write g).size ≡ g.size)
unfolding after_write
after_keeps g = (refl, refl)

-- ---- the write at the line's place, and what follows
module _ {A : Type 0} {g : Registers} {taken life : ℕ} {b b1 : Array A} {u u1 p : ℕ} {v : A} {x1 : ℕ} {i : ℕ} (ready : Ready g taken life b i) (e : p ≡ place_of g.round i) (w1 : Wrote b u p v b1 u1 (Ok x1)) where
  first_is : b1 ≡ record { lines = set b.lines (place_of g.round i) v; taken = b.taken + 1; life = b.life }
  first_is = written_is w1 ∙ ap (λ y. record { lines = set b.lines y v; taken = b.taken + 1; life = b.life }) e

  lines1 : b1.lines ≡ set b.lines (place_of g.round i) v
  lines1 = ap (λ (y : Array A). y.lines) first_is

  left1 : left b1 + 1 ≡ left b
  left1 =
      let t : b1.taken ≡ b.taken + 1 = ap (λ (y : Array A). y.taken) first_is in
      let f : b1.life ≡ b.life = ap (λ (y : Array A). y.life) first_is in
      let k = left_one ready in
      omega arith

  wide1 : g.size ≤ length b1.lines
  wide1 =
      let n = (line_in ready.held b i ready.line).1 in
      let k = ap length lines1 ∙ length-set b.lines (place_of g.round i) v in
      omega arith

  lines_first : refresh_lines g b1 ≡ set (refresh_lines g b) i v
  lines_first =
      let q = line_in ready.held b i ready.line in
      ap (λ y. placed_lines g.size g.size (place_of g.round) y) lines1
      ∙ lines_set g.size g.keys g.round (sound ready) b.lines i v q.0 q.1

  -- any end of the write at which the lines are right and enough is left
  ends : (b' : Array A) (u' x : ℕ) → refresh_lines (after_write g) b' ≡ set (refresh_lines g b) i v
      → taken + g.copies + left b ≤ taken + 1 + (after_write g).copies + left b' → u < u' → x ≡ (u' - u) % 2 ^ 64
      → Wrote (refresh_array g life taken b) u i v (refresh_array (after_write g) life (taken + 1) b') u' (Ok x)
  ends b' u' x el pays rise ex =
      let h = after_write g in
      let k = after_keeps g in
      let paid = (ready_paid ready).0 in
      let life_is : refresh_life h life (taken + 1) b' ≡ refresh_life g life taken b =
      ap (λ I. paid_life life (taken + 1) (life + life / I + h.size / 2) (taken + 1 + h.copies + left b')) k.0
      ∙ ap (λ n. paid_life life (taken + 1) (life + life / g.interval + n / 2) (taken + 1 + h.copies + left b')) k.1
      ∙ paid_yes life (taken + 1) (life + life / g.interval + g.size / 2) (taken + 1 + h.copies + left b') (omega arith)
      ∙ sym (ready_paid ready).1 in
      wrote_accepted (refresh_array g life taken b) u i v (refresh_array h life (taken + 1) b') u' x ready.line ready.lives
      (ap (λ y. record { lines = y; taken = taken + 1; life = refresh_life h life (taken + 1) b' }) el
      ∙ ap (λ y. record { lines = set (refresh_lines g b) i v; taken = taken + 1; life = y }) life_is)
      rise ex

  -- ---- nothing is exchanged
  module _ (none : due_exchange g ≡ None) where
    alone_copies : ((after_write g).copies ≡ g.copies) × (write_copies g ≡ [])
    alone_copies = ⊎_elim
        (λ (d : g.due + 1 < g.interval). let n = write_waits g d in (ap (λ (h : Registers). h.copies) n.0, n.1))
        (λ (q : (g.interval ≤ g.due + 1) × (pointer_mate g.round ≤ g.round.pointer)).
        let n = write_no_exchange g q.0 q.1 in
        (ap (λ (h : Registers). h.copies) n.0, n.1))
        (exchange_none g none)

    alone_lines : refresh_lines (after_write g) b1 ≡ set (refresh_lines g b) i v
    alone_lines = ⊎_elim
        (λ (d : g.due + 1 < g.interval). ap (λ (h : Registers). refresh_lines h b1) (write_waits g d).0 ∙ lines_first)
        (λ (q : (g.interval ≤ g.due + 1) × (pointer_mate g.round ≤ g.round.pointer)).
        ap (λ (h : Registers). refresh_lines h b1) (write_no_exchange g q.0 q.1).0
        ∙ lines_unexchanged g.size g.keys g.round (sound ready) b1.lines wide1 q.1
        ∙ lines_first)
        (exchange_none g none)

    alone_requests : Write p v ∷ [] ≡ requests (refresh g) (refresh_lines g b) (Write i v)
    alone_requests =
        ap (λ y. Write y v ∷ []) e
        ∙ ap (λ ks. Write (place_of g.round i) v ∷ (reads_of ks ++ writes_of (set (refresh_lines g b) i v) v ks)) (sym alone_copies.1)

    alone_wrote : Wrote (refresh_array g life taken b) u i v (refresh_array (after_write g) life (taken + 1) b1) u1 (Ok x1)
    alone_wrote = let c = alone_copies.0 in let l = left1 in ends b1 u1 x1 alone_lines (omega arith) w1.answer.1.0 w1.answer.1.1

    alone_served : (t t1 : Pile A) → Served t b u (Write p v ∷ []) t1 u1
        → Served (over (refresh g) b u t) (refresh_array g life taken b) u (Write i v ∷ []) (over (refresh (after_write g)) b1 u1 t1) u1
    alone_served t t1 s =
        layer_accepted (refresh g) (refresh (after_write g)) b b1 u u1 t t1 (refresh_array g life taken b) (Write i v) (accepts_write _ i v ready.line ready.lives) refl
        (subst (λ q. Asked b u t q b1 u1 t1) alone_requests (asked_write b b1 u u1 t t1 p v x1 w1 s))

  -- ---- two lines are exchanged
  previous_in : previous_place g.round < length b1.lines
  previous_in = let q = previous_stays g.size g.keys g.round (sound ready) in let n = wide1 in omega arith

  current_in : current_place g.round < length b1.lines
  current_in = let q = current_stays g.size g.keys g.round (sound ready) in let n = wide1 in omega arith

  module _ {p' c' : ℕ} (o : Exchanges g p' c') where
    pub second_reads : c' < length b1.lines
    second_reads = let k = current_in in let q = o.current in omega arith

    pub third_reads : p' < length b1.lines
    third_reads = let k = previous_in in let q = o.previous in omega arith

    pub second_accepts : (x : A) → denied_by b1 (Write p' x) ≡ None
    second_accepts x =
        let l3 = left_three ready o.due o.above in
        let l1 = left1 in
        accepts_write b1 p' x third_reads (omega arith)

    pub third_accepts : {b2 : Array A} {u2 x2 : ℕ} {x : A} (y : A) → Wrote b1 u1 p' x b2 u2 (Ok x2) → denied_by b2 (Write c' y) ≡ None
    third_accepts {b2} {x = x} y w2 =
        let l3 = left_three ready o.due o.above in
        let l1 = left1 in
        let is = written_is w2 in
        let t2 : b2.taken ≡ b1.taken + 1 = ap (λ (z : Array A). z.taken) is in
        let f2 : b2.life ≡ b1.life = ap (λ (z : Array A). z.life) is in
        let n2 : length b2.lines ≡ length b1.lines = ap (λ (z : Array A). length z.lines) is ∙ length-set b1.lines p' x in
        let k = second_reads in
        accepts_write b2 c' y (omega arith) (omega arith)

  module _ (d : g.interval ≤ g.due + 1) (m : g.round.pointer < pointer_mate g.round) {b2 b3 : Array A} {u2 u3 x2 x3 : ℕ} {x y : A} (ex : Ok x ≡ fetched b1.lines (current_place g.round)) (ey : Ok y ≡ fetched b1.lines (previous_place g.round)) (w2 : Wrote b1 u1 (previous_place g.round) x b2 u2 (Ok x2)) (w3 : Wrote b2 u2 (current_place g.round) y b3 u3 (Ok x3)) where
    mated_is : (z : A) → x ≡ get_or b1.lines (current_place g.round) z
    mated_is z = fetched_is b1.lines (current_place g.round) x z current_in ex

    moved_is : (z : A) → y ≡ get_or b1.lines (previous_place g.round) z
    moved_is z = fetched_is b1.lines (previous_place g.round) y z previous_in ey

    -- what is copied are the layer's own lines
    line_value : (a : ℕ) → a < g.size → get_or (set (refresh_lines g b) i v) a v ≡ get_or b1.lines (place_of g.round a) v
    line_value a ha =
        ap (λ z. get_or z a v) (sym lines_first)
        ∙ placed_at g.size g.size (place_of g.round) (held_stays ready.held) b1.lines a v wide1 ha

    value_mated : x ≡ get_or (set (refresh_lines g b) i v) (pointer_mate g.round) v
    value_mated =
        mated_is v
        ∙ ap (λ z. get_or b1.lines z v) (sym (mate_before g.round m))
        ∙ sym (line_value (pointer_mate g.round) (mate_stays g.size g.keys g.round (sound ready)))

    value_moved : y ≡ get_or (set (refresh_lines g b) i v) g.round.pointer v
    value_moved =
        moved_is v
        ∙ ap (λ z. get_or b1.lines z v) (sym (line_before g.round m))
        ∙ sym (line_value g.round.pointer (sound ready).pointer)

    exchanged_requests : Write p v ∷ (Read (current_place g.round) ∷ (Read (previous_place g.round) ∷ (Write (previous_place g.round) x ∷ (Write (current_place g.round) y ∷ []))))
        ≡ requests (refresh g) (refresh_lines g b) (Write i v)
    exchanged_requests =
        let op = previous_place g.round in
        let cp = current_place g.round in
        ap (λ r. Write r v ∷ (Read cp ∷ (Read op ∷ (Write op x ∷ (Write cp y ∷ []))))) e
        ∙ ap (λ r. Write (place_of g.round i) v ∷ (Read cp ∷ (Read op ∷ (Write op r ∷ (Write cp y ∷ []))))) value_mated
        ∙ ap (λ r. Write (place_of g.round i) v ∷ (Read cp ∷ (Read op ∷ (Write op (get_or (set (refresh_lines g b) i v) (pointer_mate g.round) v) ∷ (Write cp r ∷ []))))) value_moved
        ∙ ap (λ ks. Write (place_of g.round i) v ∷ (reads_of ks ++ writes_of (set (refresh_lines g b) i v) v ks)) (sym (write_exchanges g d m).1)

    lines3 : b3.lines ≡ set (set b1.lines (previous_place g.round) x) (current_place g.round) y
    lines3 =
        ap (λ (z : Array A). z.lines) (written_is w3)
        ∙ ap (λ (z : Array A). set z.lines (current_place g.round) y) (written_is w2)

    exchanged_lines : refresh_lines (after_write g) b3 ≡ set (refresh_lines g b) i v
    exchanged_lines =
        ap (λ (h : Registers). refresh_lines h b3) (write_exchanges g d m).0
        ∙ ap (λ ls. placed_lines g.size g.size (place_of (refreshed g.size g.keys g.round)) ls) lines3
        ∙ lines_exchanged g.size g.keys g.round (sound ready) b1.lines x y wide1 m mated_is moved_is
        ∙ lines_first

    exchanged_wrote : (z : ℕ) → z ≡ ((x1 + x2) % 2 ^ 64 + x3) % 2 ^ 64
        → Wrote (refresh_array g life taken b) u i v (refresh_array (after_write g) life (taken + 1) b3) u3 (Ok z)
    exchanged_wrote z ez =
        let l3 = left_three ready d m in
        let l1 = left1 in
        let t2 : b2.taken ≡ b1.taken + 1 = ap (λ (q : Array A). q.taken) (written_is w2) in
        let f2 : b2.life ≡ b1.life = ap (λ (q : Array A). q.life) (written_is w2) in
        let t3 : b3.taken ≡ b2.taken + 1 = ap (λ (q : Array A). q.taken) (written_is w3) in
        let f3 : b3.life ≡ b2.life = ap (λ (q : Array A). q.life) (written_is w3) in
        let n : (after_write g).copies ≡ g.copies + 2 = ap (λ (h : Registers). h.copies) (write_exchanges g d m).0 in
        let a1 = w1.answer.1.0 in
        let c1 = w1.answer.1.1 in
        let a2 = w2.answer.1.0 in
        let c2 = w2.answer.1.1 in
        let a3 = w3.answer.1.0 in
        let c3 = w3.answer.1.1 in
        ends b3 u3 z exchanged_lines (omega arith) (omega arith) (omega arith)

    exchanged_served : (t t1 t2 t3 : Pile A) → Served t b u (Write p v ∷ []) t1 u1
        → Served t1 b1 u1 (Read (current_place g.round) ∷ []) t1 u1
        → Served t1 b1 u1 (Read (previous_place g.round) ∷ []) t1 u1
        → Served t1 b1 u1 (Write (previous_place g.round) x ∷ []) t2 u2
        → Served t2 b2 u2 (Write (current_place g.round) y ∷ []) t3 u3
        → Served (over (refresh g) b u t) (refresh_array g life taken b) u (Write i v ∷ []) (over (refresh (after_write g)) b3 u3 t3) u3
    exchanged_served t t1 t2 t3 s1 r1 r2 s2 s3 =
        let op = previous_place g.round in
        let cp = current_place g.round in
        let done = asked_more b b1 b3 u u1 u3 t t1 t3 (Write p v ∷ []) (Read cp ∷ (Read op ∷ (Write op x ∷ (Write cp y ∷ [])))) (asked_write b b1 u u1 t t1 p v x1 w1 s1)
        (asked_more b1 b1 b3 u1 u1 u3 t1 t1 t3 (Read cp ∷ []) (Read op ∷ (Write op x ∷ (Write cp y ∷ []))) (asked_read b1 u1 t1 cp current_in r1)
        (asked_more b1 b1 b3 u1 u1 u3 t1 t1 t3 (Read op ∷ []) (Write op x ∷ (Write cp y ∷ [])) (asked_read b1 u1 t1 op previous_in r2)
        (asked_more b1 b2 b3 u1 u2 u3 t1 t2 t3 (Write op x ∷ []) (Write cp y ∷ []) (asked_write b1 b2 u1 u2 t1 t2 op x x2 w2 s2) (asked_write b2 b3 u2 u3 t2 t3 cp y x3 w3 s3)))) in
        layer_accepted (refresh g) (refresh (after_write g)) b b3 u u3 t t3 (refresh_array g life taken b) (Write i v) (accepts_write _ i v ready.line ready.lives) refl
        (subst (λ q. Asked b u t q b3 u3 t3) exchanged_requests done)

-- ---- the same for a layer over a medium
-- what the trait asks of an accepted write, answered z, that turns the registers and leaves n of the medium m below
pub record Done {M A : Type 0} (G : Ghosts M A) (g h : Registers) (taken life : ℕ) (m n : M) (i : ℕ) (v : A) (z : ℕ) : Type 0 where
  pub answer : Wrote (refresh_array g life taken (means G m)) (G.wear m) i v (refresh_array h life (taken + 1) (means G n)) (G.wear n) (Ok z)
  pub below : Served (over (refresh g) (means G m) (G.wear m) (G.pile m)) (refresh_array g life taken (means G m)) (G.wear m) (Write i v ∷ []) (over (refresh h) (means G n) (G.wear n) (G.pile n)) (G.wear n)
  pub effect : Chained G m (requests (refresh g) (refresh_lines g (means G m)) (Write i v)) n

-- the lines at the places p and c of m change places, which leaves n: two reads, and then two writes that answer x2 and x3
pub record Swapped {M A : Type 0} (G : Ghosts M A) (m n : M) (p c x2 x3 : ℕ) : Type 0 where
  pub half : M
  pub mated : A
  pub moved : A
  pub reads_mated : Ok mated ≡ fetched (G.lines m) c
  pub serves_mated : Served (G.pile m) (means G m) (G.wear m) (Read c ∷ []) (G.pile m) (G.wear m)
  pub reads_moved : Ok moved ≡ fetched (G.lines m) p
  pub serves_moved : Served (G.pile m) (means G m) (G.wear m) (Read p ∷ []) (G.pile m) (G.wear m)
  pub writes_mated : WriteStep G m p mated (Ok x2) half
  pub writes_moved : WriteStep G half c moved (Ok x3) n

module _ {M A : Type 0} (G : Ghosts M A) {g : Registers} {taken life : ℕ} {m m1 : M} {i p x1 : ℕ} {v : A} (ready : Ready g taken life (means G m) i) (e : p ≡ place_of g.round i) (s1 : WriteStep G m p v (Ok x1) m1) where
  pub done_alone : due_exchange g ≡ None → Done G g (after_write g) taken life m m1 i v x1
  done_alone none =
      record {
        answer = alone_wrote ready e s1.answer none;
        below = alone_served ready e s1.answer none _ _ s1.below;
        effect =
            subst (λ q. Chained G m q m1) (alone_requests ready e s1.answer none)
            (chained_write G m m1 m1 p v (Ok x1) [] s1 (chained_none G m1));
      }

  pub done_exchanged : {n : M} (o : Exchange) {x2 x3 : ℕ} (z : ℕ) → due_exchange g ≡ Some o → Swapped G m1 n o.previous o.current x2 x3 → z ≡ ((x1 + x2) % 2 ^ 64 + x3) % 2 ^ 64
      → Done G g (after_write g) taken life m n i v z
  done_exchanged {n} o {x2} {x3} z some swapped ez =
      let x = exchange_some g o some in
      let d = x.due in
      let a = x.above in
      let op = previous_place g.round in
      let cp = current_place g.round in
      let s : Swapped G m1 n op cp x2 x3 =
      subst (λ c. Swapped G m1 n op c x2 x3) x.current (subst (λ q. Swapped G m1 n q o.current x2 x3) x.previous swapped) in
      let w1 = s1.answer in
      let w2 = s.writes_mated.answer in
      let w3 = s.writes_moved.answer in
      record {
        answer = exchanged_wrote ready e w1 d a s.reads_mated s.reads_moved w2 w3 z ez;
        below = exchanged_served ready e w1 d a s.reads_mated s.reads_moved w2 w3 _ _ _ _ s1.below s.serves_mated s.serves_moved s.writes_mated.below s.writes_moved.below;
        effect =
            subst (λ q. Chained G m q n) (exchanged_requests ready e w1 d a s.reads_mated s.reads_moved w2 w3)
            (chained_write G m m1 n p v (Ok x1) _ s1
            (chained_read G m1 n cp _
            (chained_read G m1 n op _
            (chained_write G m1 s.half n op s.mated (Ok x2) _ s.writes_mated
            (chained_write G s.half n n cp s.moved (Ok x3) [] s.writes_moved (chained_none G n))))));
      }
