-- Runs of piles. What is asked below over two runs is what is asked over the one and then the other, so runs can be put together; each
-- accepted call is one write or read below and as many writes more as there are copies; and the rest follows by recursion over the pile.
use Rattle.std.proofs.Common.{◌≡◌, ℕ, ◌+◌, ◌-◌, ◌/◌, ◌%◌, ◌^◌, ◌<◌, true, false, cond, List, [], ◌∷◌, ◌++◌, map, length, get_or, take, drop, set, Some, None, Ok, Err, Option, Result, sym, refl, ap, ◌∙◌, subst, arith}
use Rattle.std.proofs.lemmas.List.{append-nil, append_assoc, map-append, take_more, take_more_set, drop-set-lt, drop-drop}
use Rattle.line.specs.Answers.{Answer}
use Rattle.line.specs.Copies.{Copy}
use Rattle.line.specs.declared.answer.Accepted.TheVariants.{Line, Toll}
use Rattle.line.specs.declared.denial.Denial.{Denial}
use Rattle.startgap.specs.Regions as startgap
use Rattle.startgap.specs.Regions.{row_at, region_copy}
use Rattle.startgap.specs.Rows.{move_due}
use Rattle.refresh.specs.Refresh as refreshing
use Rattle.medium.specs.Array.{Array, unless_denied, denied_by, accepted, next, after, Reply, fetched, read_reply, write_reply, reply, replies, Wrote}
use Rattle.medium.specs.Law.{reply_of, tolls, accepted_one, accepted_writes, Ran, Books}
use Rattle.medium.specs.Pile.{Layer, scatter, gaps, refresh, place, due_copies, turned, made, reads_of, writes_of, requests, asked_at, layer_at, asks, layer_after, Undenied, Pile, bottom, over, Served, bottom_array, bottom_wear, copies}
use Rattle.medium.specs.declared.call.Call.{Call}
use Rattle.medium.specs.declared.call.Call.TheVariants.{Read, Write}
use Rattle.medium.proofs.Arrays.{next_read, after_append, replies_append}

pub tolls_append : {A : Type 0} (rs ss : List (Answer A)) → tolls (rs ++ ss) ≡ tolls rs + tolls ss
unfolding tolls
tolls_append [] ss = omega arith
tolls_append (r ∷ rs) ss = let h = tolls_append rs ss in omega arith

pub undenied_append : {A : Type 0} (a : Array A) (cs ds : List (Call A)) → Undenied a cs → Undenied (after a cs) ds → Undenied a (cs ++ ds)
unfolding after Undenied
undenied_append a [] ds h k = k
undenied_append a (c ∷ cs) ds h k = (h.0, undenied_append (next a c) cs ds h.1 k)

-- ---- runs of a layer
pub asks_append : {A : Type 0} (s : Layer) (a : Array A) (cs ds : List (Call A)) → asks s a (cs ++ ds) ≡ asks s a cs ++ asks (layer_after s a cs) (after a cs) ds
unfolding after asks layer_after
asks_append s a [] ds = refl
asks_append s a (c ∷ cs) ds = ap (λ qs. asked_at s a c ++ qs) (asks_append (layer_at s a c) (next a c) cs ds) ∙ sym (append_assoc (asked_at s a c) _ _)

pub layer_append : {A : Type 0} (s : Layer) (a : Array A) (cs ds : List (Call A)) → layer_after s a (cs ++ ds) ≡ layer_after (layer_after s a cs) (after a cs) ds
unfolding after layer_after
layer_append s a [] ds = refl
layer_append s a (c ∷ cs) ds = layer_append (layer_at s a c) (next a c) cs ds

rises : (w w' w'' u u' u'' : ℕ) → u' + w ≡ u + w' → u'' + w' ≡ u' + w'' → u'' + w ≡ u + w''
rises w w' w'' u u' u'' h k = omega arith

-- what is done in two runs is done in one
pub served_more : {A : Type 0} (t t' t'' : Pile A) (a : Array A) (w w' w'' : ℕ) (cs ds : List (Call A)) → Served t a w cs t' w' → Served t' (after a cs) w' ds t'' w'' → Served t a w (cs ++ ds) t'' w''
unfolding Served
served_more bottom bottom bottom a w w' w'' cs ds h k = tt
served_more bottom bottom (over s'' b'' u'' t'') a w w' w'' cs ds h k = elim k [ ]
served_more bottom (over s' b' u' t') t'' a w w' w'' cs ds h k = elim h [ ]
served_more (over s b u t) bottom t'' a w w' w'' cs ds h k = elim h [ ]
served_more (over s b u t) (over s' b' u' t') bottom a w w' w'' cs ds h k = elim k [ ]
served_more {A} (over s b u t) (over s' b' u' t') (over s'' b'' u'' t'') a w w' w'' cs ds h k =
    let K : Layer → Array A → Type 0 = λ x y. (s'' ≡ layer_after x (after a cs) ds) × (b'' ≡ after y (asks x (after a cs) ds)) × Undenied y (asks x (after a cs) ds) × (u'' + w' ≡ u' + w'') × Served t' y u' (asks x (after a cs) ds) t'' u'' in
    let k' : K (layer_after s a cs) (after b (asks s a cs)) = subst (λ y. K (layer_after s a cs) y) h.1 (subst (λ x. K x b') h.0 k) in
    let R : List (Call A) → Type 0 = λ q. (b'' ≡ after b q) × Undenied b q × Served t b u q t'' u'' in
    let r : R (asks s a (cs ++ ds)) = subst R (sym (asks_append s a cs ds)) (k'.1 ∙ sym (after_append b (asks s a cs) _), undenied_append b (asks s a cs) _ h.2 k'.2, served_more t t' t'' b u u' u'' (asks s a cs) _ h.4 k'.4) in
    (k'.0 ∙ sym (layer_append s a cs ds), r.0, r.1, rises w w' w'' u u' u'' h.3 k.3, r.2)

-- nothing is done where nothing is asked
pub served_none : {A : Type 0} (t : Pile A) (a : Array A) (w : ℕ) → Served t a w [] t w
unfolding Served asks layer_after after Undenied
served_none bottom a w = tt
served_none (over s b u t) a w = (refl, refl, tt, refl, served_none t b u)

-- one call at a layer
pub served_one : {A : Type 0} (s s' : Layer) (b b' : Array A) (u u' : ℕ) (t t' : Pile A) (a : Array A) (w w' : ℕ) (c : Call A) → s' ≡ layer_at s a c → b' ≡ after b (asked_at s a c) → Undenied b (asked_at s a c) → u' + w ≡ u + w' → Served t b u (asked_at s a c) t' u' → Served (over s b u t) a w (c ∷ []) (over s' b' u' t') w'
unfolding Served asks layer_after
served_one {A} s s' b b' u u' t t' a w w' c es eb sm ew sv =
    let R : List (Call A) → Type 0 = λ q. (b' ≡ after b q) × Undenied b q × Served t b u q t' u' in
    let r : R (asked_at s a c ++ []) = subst R (sym (append-nil (asked_at s a c))) (eb, sm, sv) in
    (es, r.0, r.1, ew, r.2)

-- ---- counting writes
abbrev pub write_one : {A : Type 0} → Call A → ℕ
write_one (Read i) = 0
write_one (Write i v) = 1

abbrev pub writes : {A : Type 0} → List (Call A) → ℕ
writes [] = 0
writes (c ∷ cs) = write_one c + writes cs

writes_append : {A : Type 0} (cs ds : List (Call A)) → writes (cs ++ ds) ≡ writes cs + writes ds
writes_append [] ds = omega arith
writes_append (c ∷ cs) ds = let h = writes_append cs ds in omega arith

accepted_append : {A : Type 0} (rs ss : List (Reply A)) → accepted_writes (rs ++ ss) ≡ accepted_writes rs + accepted_writes ss
unfolding accepted_writes
accepted_append [] ss = omega arith
accepted_append (r ∷ rs) ss = let h = accepted_append rs ss in omega arith

read_no : {A : Type 0} (r : Result A Denial) → accepted_one (read_reply r) ≡ 0
read_no (Ok v) = refl
read_no (Err e) = refl

taken_at : {A : Type 0} (a : Array A) (c : Call A) → (next a c).taken ≡ a.taken + accepted_one (reply a c)
unfolding next
taken_at a (Read i) = ap (λ x. x.taken) (next_read a i) ∙ (let h = read_no (fetched a.lines i) in omega arith)
taken_at {A} a (Write i v) = elim (denied_by a (Write i v)) as (λ o. (unless_denied o (accepted a (Write i v)) a).taken ≡ a.taken + accepted_one {A = A} (write_reply o)) [ None ↦ refl | Some e ↦ omega arith ]

pub taken_after : {A : Type 0} (a : Array A) (cs : List (Call A)) → (after a cs).taken ≡ a.taken + accepted_writes (replies a cs)
unfolding after replies accepted_writes
taken_after a [] = omega arith
taken_after a (c ∷ cs) = let h = taken_after (next a c) cs in let k = taken_at a c in omega arith

undenied_at : {A : Type 0} (a : Array A) (c : Call A) → denied_by a c ≡ None → accepted_one (reply a c) ≡ write_one c
undenied_at a (Read i) e = read_no (fetched a.lines i)
undenied_at {A} a (Write i v) e = ap (λ o. accepted_one {A = A} (write_reply o)) e

pub undenied_writes : {A : Type 0} (a : Array A) (cs : List (Call A)) → Undenied a cs → accepted_writes (replies a cs) ≡ writes cs
unfolding Undenied replies accepted_writes
undenied_writes a [] h = refl
undenied_writes a (c ∷ cs) h = let k = undenied_writes (next a c) cs h.1 in let l = undenied_at a c h.0 in omega arith

reads_none : (A : Type 0) (ks : List Copy) → writes {A = A} (reads_of ks) ≡ 0
reads_none A [] = refl
reads_none A (k ∷ ks) = let h = reads_none A ks in omega arith

writes_all : {A : Type 0} (ls : List A) (d : A) (ks : List Copy) → writes (writes_of ls d ks) ≡ length ks
writes_all ls d [] = refl
writes_all ls d (k ∷ ks) = let h = writes_all ls d ks in omega arith

-- the copies that fall due are those by which the layer's count grows
made_turned : (s : Layer) (i : ℕ) → made (turned s i) ≡ made s + length (due_copies s i)
unfolding startgap.write_copies startgap.after_write refreshing.after_write
made_turned (scatter n f) i = refl
made_turned (refresh g) i = refl
made_turned (gaps g) i =
    elim (move_due g.interval (row_at g (i / g.size))) as (λ b. cond b (g.copies + 1) g.copies ≡ g.copies + length {A = Copy} (cond b (region_copy g (i / g.size) ∷ []) []))
    [ true ↦ refl | false ↦ omega arith ]

count_read : (A : Type 0) (p : ℕ) (o : Option Denial) → writes {A = A} (unless_denied o (Read p ∷ []) []) ≡ 0
count_read A p None = refl
count_read A p (Some e) = refl

same_layer : (s : Layer) (o : Option Denial) → unless_denied o s s ≡ s
same_layer s None = refl
same_layer s (Some e) = refl

count_at : {A : Type 0} (s : Layer) (a : Array A) (c : Call A) → writes (asked_at s a c) + made s ≡ accepted_one (reply a c) + made (layer_at s a c)
unfolding asked_at layer_at
count_at {A} s a (Read i) =
    let h = count_read A (place s i) (denied_by a (Read i)) in
    let k = ap made (same_layer s (denied_by a (Read i))) in
    let l = read_no (fetched a.lines i) in
    omega (arith, h, k, l)
count_at {A} s a (Write i v) =
    elim (denied_by a (Write i v)) as (λ o. writes (unless_denied o (requests s a.lines (Write i v)) []) + made s ≡ accepted_one {A = A} (write_reply o) + made (unless_denied o (turned s i) s)) [
      | None ↦
          let h = writes_append (reads_of (due_copies s i)) (writes_of (set a.lines i v) v (due_copies s i)) in
          let k = reads_none A (due_copies s i) in
          let l = writes_all (set a.lines i v) v (due_copies s i) in
          let m = made_turned s i in
          omega arith
      | Some e ↦ refl
    ]

pub count_asks : {A : Type 0} (s : Layer) (a : Array A) (cs : List (Call A)) → writes (asks s a cs) + made s ≡ accepted_writes (replies a cs) + made (layer_after s a cs)
unfolding asks layer_after replies accepted_writes
count_asks s a [] = refl
count_asks s a (c ∷ cs) =
    let h = count_asks (layer_at s a c) (next a c) cs in
    let k = count_at s a c in
    let l = writes_append (asked_at s a c) (asks (layer_at s a c) (next a c) cs) in
    omega arith

-- the bottom takes the accepted writes and every layer's copies
pub bottom_taken : {A : Type 0} (t t' : Pile A) (a a' : Array A) (w w' : ℕ) (cs : List (Call A)) → a' ≡ after a cs → Served t a w cs t' w' → (bottom_array a' t').taken + copies t ≡ (bottom_array a t).taken + accepted_writes (replies a cs) + copies t'
unfolding Served bottom_array copies
bottom_taken bottom bottom a a' w w' cs ea h = let k = taken_after a cs in let l = ap (λ x. x.taken) ea in omega arith
bottom_taken bottom (over s' b' u' t') a a' w w' cs ea h = elim h [ ]
bottom_taken (over s b u t) bottom a a' w w' cs ea h = elim h [ ]
bottom_taken (over s b u t) (over s' b' u' t') a a' w w' cs ea h =
    let k = bottom_taken t t' b b' u u' (asks s a cs) h.1 h.4 in
    let l = undenied_writes b (asks s a cs) h.2 in
    let m = count_asks s a cs in
    let n = ap made h.0 in
    omega arith

-- the wear of the bottom grows as that of the top
pub bottom_worn : {A : Type 0} (t t' : Pile A) (a : Array A) (w w' : ℕ) (cs : List (Call A)) → Served t a w cs t' w' → bottom_wear w' t' + w ≡ bottom_wear w t + w'
unfolding Served bottom_wear
bottom_worn bottom bottom a w w' cs h = omega arith
bottom_worn bottom (over s' b' u' t') a w w' cs h = elim h [ ]
bottom_worn (over s b u t) bottom a w w' cs h = elim h [ ]
bottom_worn (over s b u t) (over s' b' u' t') a w w' cs h = let k = bottom_worn t t' b u u' (asks s a cs) h.4 in let l = h.3 in omega arith

-- ---- runs, put together
mod_step : (w w' x : ℕ) → w < w' → x ≡ (w' - w) % 2 ^ 64 → w' % 2 ^ 64 ≡ (w + (x + 0)) % 2 ^ 64
mod_step w w' x h e = omega arith

mod_more : (w w' w'' x y : ℕ) → w' % 2 ^ 64 ≡ (w + x) % 2 ^ 64 → w'' % 2 ^ 64 ≡ (w' + y) % 2 ^ 64 → w'' % 2 ^ 64 ≡ (w + (x + y)) % 2 ^ 64
mod_more w w' w'' x y h k = omega arith

pub ran_line : {A : Type 0} (t : Pile A) (a : Array A) (w i : ℕ) (v : A) → Ok v ≡ fetched a.lines i → Served t a w (Read i ∷ []) t w → Ran t a w (Read i ∷ []) (Ok (Line v) ∷ []) t a w
unfolding after replies tolls
ran_line t a w i v e s = record { answered = ap (λ r. read_reply r ∷ []) e; array = sym (next_read a i); wear = ap (λ n. n % 2 ^ 64) (omega arith); served = s }

pub ran_no_line : {A : Type 0} (t : Pile A) (a : Array A) (w i : ℕ) (d : Denial) → Err d ≡ fetched a.lines i → Served t a w (Read i ∷ []) t w → Ran t a w (Read i ∷ []) (Err d ∷ []) t a w
unfolding after replies tolls
ran_no_line t a w i d e s = record { answered = ap (λ r. read_reply r ∷ []) e; array = sym (next_read a i); wear = ap (λ n. n % 2 ^ 64) (omega arith); served = s }

pub ran_toll : {A : Type 0} (t t' : Pile A) (a a' : Array A) (w w' i : ℕ) (v : A) (x : ℕ) → Wrote a w i v a' w' (Ok x) → Served t a w (Write i v ∷ []) t' w' → Ran t a w (Write i v ∷ []) (Ok (Toll x) ∷ []) t' a' w'
unfolding after replies tolls
ran_toll {A} t t' a a' w w' i v x h s = record { answered = ap (λ o. write_reply {A = A} o ∷ []) (sym h.answer.0); array = h.array; wear = mod_step w w' x h.answer.1.0 h.answer.1.1; served = s }

pub ran_no_write : {A : Type 0} (t t' : Pile A) (a a' : Array A) (w w' i : ℕ) (v : A) (d : Denial) → Wrote a w i v a' w' (Err d) → Served t a w (Write i v ∷ []) t' w' → Ran t a w (Write i v ∷ []) (Err d ∷ []) t' a' w'
unfolding after replies tolls
ran_no_write {A} t t' a a' w w' i v d h s = record { answered = ap (λ o. write_reply {A = A} o ∷ []) (sym h.answer.0); array = h.array; wear = ap (λ n. n % 2 ^ 64) (let k = h.answer.1 in omega arith); served = s }

pub ran_none : {A : Type 0} (t : Pile A) (a : Array A) (w : ℕ) → Ran t a w [] [] t a w
unfolding after replies tolls
ran_none t a w = record { answered = refl; array = refl; wear = ap (λ n. n % 2 ^ 64) (omega arith); served = served_none t a w }

pub ran_more : {A : Type 0} (t t' t'' : Pile A) (a a' a'' : Array A) (w w' w'' : ℕ) (cs ds : List (Call A)) (rs ss : List (Answer A)) → Ran t a w cs rs t' a' w' → Ran t' a' w' ds ss t'' a'' w'' → Ran t a w (cs ++ ds) (rs ++ ss) t'' a'' w''
ran_more {A} t t' t'' a a' a'' w w' w'' cs ds rs ss h k =
    let K : Array A → Type 0 = λ x. Ran t' x w' ds ss t'' a'' w'' in
    let k' : Ran t' (after a cs) w' ds ss t'' a'' w'' = subst K h.array k in
    record {
      answered = map-append reply_of rs ss ∙ ap (λ x. x ++ map reply_of ss) h.answered ∙ ap (λ x. replies a cs ++ x) k'.answered ∙ sym (replies_append a cs ds);
      array = k'.array ∙ sym (after_append a cs ds);
      wear = mod_more w w' w'' (tolls rs) (tolls ss) h.wear k.wear ∙ ap (λ n. (w + n) % 2 ^ 64) (sym (tolls_append rs ss));
      served = served_more t t' t'' a w w' w'' cs ds h.served k'.served;
    }

mod_shift : (w w' u u' x : ℕ) → u' + w ≡ u + w' → w' % 2 ^ 64 ≡ (w + x) % 2 ^ 64 → u' % 2 ^ 64 ≡ (u + x) % 2 ^ 64
mod_shift w w' u u' x h k = omega arith

pub ran_books : {A : Type 0} (t t' : Pile A) (a a' : Array A) (w w' : ℕ) (cs : List (Call A)) (rs : List (Answer A)) → Ran t a w cs rs t' a' w' → Books t a w rs t' a' w'
ran_books t t' a a' w w' cs rs h = record {
  writes = bottom_taken t t' a a' w w' cs h.array h.served ∙ ap (λ x. (bottom_array a t).taken + accepted_writes x + copies t') (sym h.answered);
  wear = mod_shift w w' (bottom_wear w t) (bottom_wear w' t') (tolls rs) (bottom_worn t t' a w w' cs h.served) h.wear;
}

-- the same, of a call that is known by an equation
pub ran_at : {A : Type 0} (t t' : Pile A) (a a' : Array A) (w w' : ℕ) (q c : Call A) (r : Answer A) → q ≡ c → Ran t a w (c ∷ []) (r ∷ []) t' a' w' → Ran t a w (q ∷ []) (r ∷ []) t' a' w'
ran_at t t' a a' w w' q c r e h = subst (λ x. Ran t a w (x ∷ []) (r ∷ []) t' a' w') (sym e) h

pub ran_push : {A : Type 0} (t t' t'' : Pile A) (a a' a'' : Array A) (w w' w'' : ℕ) (cs : List (Call A)) (rs : List (Answer A)) (i : ℕ) (q : Call A) (r : Answer A) → i < length cs → i < length rs → q ≡ get_or cs i q → Ran t a w (take i cs) (take i rs) t' a' w' → Ran t' a' w' (q ∷ []) (r ∷ []) t'' a'' w'' → Ran t a w (take (i + 1) cs) (take (i + 1) (set rs i r)) t'' a'' w''
ran_push t t' t'' a a' a'' w w' w'' cs rs i q r hc hr e h k =
    let ec : take (i + 1) cs ≡ take i cs ++ q ∷ [] = take_more cs i q hc ∙ ap (λ x. take i cs ++ x ∷ []) (sym e) in
    subst (λ x. Ran t a w x (take (i + 1) (set rs i r)) t'' a'' w'') (sym ec)
    (subst (λ x. Ran t a w (take i cs ++ q ∷ []) x t'' a'' w'') (sym (take_more_set rs i r hr))
    (ran_more t t' t'' a a' a'' w w' w'' (take i cs) (q ∷ []) (take i rs) (r ∷ []) h k))

pub rest_push : {X : Type 0} (xs ys : List X) (i : ℕ) (r : X) → drop i xs ≡ drop i ys → drop (i + 1) (set xs i r) ≡ drop (i + 1) ys
rest_push xs ys i r e = drop-set-lt (i + 1) xs i r (omega arith) ∙ sym (drop-drop 1 i xs) ∙ ap (λ x. drop 1 x) e ∙ drop-drop 1 i ys

pub ran_upto : {A : Type 0} (t t' : Pile A) (a a' : Array A) (w w' : ℕ) (cs : List (Call A)) (rs : List (Answer A)) (i n : ℕ) → i ≡ n → Ran t a w (take i cs) (take i rs) t' a' w' → Ran t a w (take n cs) (take n rs) t' a' w'
ran_upto t t' a a' w w' cs rs i n e h = subst (λ k. Ran t a w (take k cs) (take k rs) t' a' w') e h

pub rest_upto : {X : Type 0} (xs ys : List X) (i n : ℕ) → i ≡ n → drop i xs ≡ drop i ys → drop n xs ≡ drop n ys
rest_upto xs ys i n e h = subst (λ k. drop k xs ≡ drop k ys) e h

pub served_bottom : {A : Type 0} (a : Array A) (w w' : ℕ) (cs : List (Call A)) → Served bottom a w cs bottom w'
unfolding Served
served_bottom a w w' cs = tt

pub ran_taken : {A : Type 0} (t t' : Pile A) (a a' : Array A) (w w' : ℕ) (cs : List (Call A)) (rs : List (Answer A)) → Ran t a w cs rs t' a' w' → a.taken ≡ 0 → a'.taken ≡ accepted_writes (map reply_of rs)
ran_taken t t' a a' w w' cs rs h z =
    let e = ap (λ (x : Array _). x.taken) h.array in
    let k = taken_after a cs in
    let d = ap accepted_writes h.answered in
    omega arith
