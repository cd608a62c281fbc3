-- The lines of the layer over a list of lines below. A write at a line's place is a write of that line, since places are apart. A refresh
-- changes no line: where the two places are exchanged, the two lines are found at each other's place, and else every line stays.
use Rattle.std.proofs.Common.{◌≡◌, ℕ, ◌<◌, ◌≤◌, List, length, get_or, set, refl, ap, arith}
use lib.Bits.{xor_lt}
use Rattle.std.proofs.lemmas.List.{length-set}
use Rattle.refresh.specs.declared.round.Round.{Round}
use Rattle.refresh.specs.Refresh.{pointer_mate, previous_place, current_place, place_of, refreshed, Sound}
use Rattle.refresh.proofs.Contents.{write_place, refresh_set, unexchanged_place}
use Rattle.refresh.proofs.Places.{mapping}
use Rattle.refresh.proofs.Refreshes.{refreshed_sound}
use Rattle.medium.specs.Pile.{placed_lines}
use Rattle.medium.proofs.Layers.{placed_same, placed_keep}

pub place_stays : (n : ℕ) (keys : List ℕ) (w : Round) → Sound n keys w → (a : ℕ) → a < n → place_of w a < n
place_stays n keys w s = (mapping n s.power.0 w s.power.1 s.previous s.current).place_below

module _ (n : ℕ) (keys : List ℕ) (w : Round) (s : Sound n keys w) where
  pub mate_stays : pointer_mate w < n
  mate_stays = (mapping n s.power.0 w s.power.1 s.previous s.current).mate_below w.pointer s.pointer

  -- both places of a refresh are among the n
  pub previous_stays : previous_place w < n
  previous_stays =
      let e = s.power.1 in
      let hr = s.pointer in
      let hp = s.previous in
      let q = xor_lt s.power.0 w.pointer w.previous (omega arith) (omega arith) in
      omega arith

  pub current_stays : current_place w < n
  current_stays =
      let e = s.power.1 in
      let hr = s.pointer in
      let hc = s.current in
      let q = xor_lt s.power.0 w.pointer w.current (omega arith) (omega arith) in
      omega arith

  pub lines_set : {A : Type 0} (ls : List A) (i : ℕ) (v : A) → i < n → n ≤ length ls
      → placed_lines n n (place_of w) (set ls (place_of w i) v) ≡ set (placed_lines n n (place_of w) ls) i v
  lines_set ls i v h l =
      let p = place_stays n keys w s i h in
      let f = place_stays n keys w s in
      placed_same n n (place_of w) (place_of w) f f ls (set ls (place_of w i) v) i v l (length-set ls (place_of w i) v) h
      (λ d. (write_place w ls i v d (omega arith)).0)
      (λ j d hj ne. (write_place w ls i v d (omega arith)).1 j ne)

  pub lines_unexchanged : {A : Type 0} (ls : List A) → n ≤ length ls → pointer_mate w ≤ w.pointer
      → placed_lines n n (place_of (refreshed n keys w)) ls ≡ placed_lines n n (place_of w) ls
  lines_unexchanged ls l m =
      placed_keep n n (place_of w) (place_of (refreshed n keys w)) (place_stays n keys w s) (place_stays n keys (refreshed n keys w) (refreshed_sound n keys w s)) ls ls l refl
      (λ j d hj. ap (λ p. get_or ls p d) (unexchanged_place n keys w m j hj))

  pub lines_exchanged : {A : Type 0} (ls : List A) (x y : A) → n ≤ length ls → w.pointer < pointer_mate w
      → ((d : A) → x ≡ get_or ls (current_place w) d) → ((d : A) → y ≡ get_or ls (previous_place w) d)
      → placed_lines n n (place_of (refreshed n keys w)) (set (set ls (previous_place w) x) (current_place w) y) ≡ placed_lines n n (place_of w) ls
  lines_exchanged ls x y l m ex ey =
      let p = previous_place w in
      let c = current_place w in
      let hp = previous_stays in
      let hc = current_stays in
      let e1 = length-set (set ls p x) c y in
      let e2 = length-set ls p x in
      placed_keep n n (place_of w) (place_of (refreshed n keys w)) (place_stays n keys w s) (place_stays n keys (refreshed n keys w) (refreshed_sound n keys w s)) ls (set (set ls p x) c y) l (omega arith)
      (λ j d hj. refresh_set n keys w ls x y d m (omega arith) (omega arith) (ex d) (ey d) j hj)
