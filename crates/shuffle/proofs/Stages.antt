-- What the code computes key by key is the network's list of stages: each stage keeps the width, and takes the halves where the network does.
use Rattle.std.specs.Prelude.{ℕ, ◌<◌, List, [], ◌∷◌, map, reverse, fold, refl}
use Rattle.std.proofs.Common.{◌≡◌, sym, ◌∙◌, ap}
use Rattle.std.proofs.lemmas.List.{reverse-append}
use Rattle.std.proofs.lemmas.List.Sums.{fold_push}
use Rattle.shuffle.specs.declared.feistel.Split.{Split}
use Rattle.shuffle.specs.declared.width.Width.{Width}
use Rattle.shuffle.specs.Permutations.{below}
use Rattle.shuffle.specs.Network.{Halves, halves, joined, unstage, stages, unstages, network_span}
use Rattle.shuffle.specs.Feistel.{round, feistel_forward, feistel_back}
use Rattle.shuffle.specs.Split.{halves_of, stage_of, unstage_of}
use Rattle.shuffle.specs.Undoing.{below_in}

-- after the keys the halves s of width w are the halves h
record Reaches (s : Split) (w : Width 6) (h : Halves) : Type 0 where
  pub width : s.width ≡ w
  pub halves : halves_of s ≡ h

stages_reach : (keys : List ℕ) (s : Split) → Reaches (fold stage_of s keys) s.width (stages (map (round s.width.bits) keys) (halves_of s))
stages_reach [] s = record { width = refl; halves = refl }
stages_reach (key ∷ keys) s = stages_reach keys (stage_of s key)

unstages_reach : (keys : List ℕ) (s : Split) → Reaches (fold unstage_of s (reverse keys)) s.width (unstages (map (round s.width.bits) keys) (halves_of s))
unstages_reach [] s = record { width = refl; halves = refl }
unstages_reach (key ∷ keys) s =
    let before = unstages_reach keys s in
    let last : fold unstage_of s (reverse (key ∷ keys)) ≡ unstage_of (fold unstage_of s (reverse keys)) key =
    ap (fold unstage_of s) (reverse-append (key ∷ []) keys) ∙ fold_push unstage_of s (reverse keys) key in
    rw last (record {
      width = before.width;
      halves = ap (λ (w : Width 6). unstage (round w.bits key) (halves_of (fold unstage_of s (reverse keys)))) before.width ∙ ap (unstage (round s.width.bits key)) before.halves;
    })

-- the number that is joined of what the halves s of the number x reach, where the network takes the halves h of n bits to `through n h`
module _ (w : Width 6) (x : ℕ) (in_span : x < network_span w.bits) (s r : Split) (same : s.width ≡ w) (split : halves_of s ≡ halves w.bits x) where
  joined_is : (through : ℕ → Halves → Halves) → Reaches r s.width (through s.width.bits (halves_of s))
      → joined r.width.bits (halves_of r) ≡ below (network_span w.bits) (λ y. joined w.bits (through w.bits (halves w.bits y))) x
  joined_is through reached =
      let joins : joined r.width.bits (halves_of r) ≡ joined s.width.bits (through s.width.bits (halves_of s)) = cc in
      let goes : joined s.width.bits (through s.width.bits (halves_of s)) ≡ joined w.bits (through w.bits (halves w.bits x)) = cc in
      joins ∙ goes ∙ sym (below_in (network_span w.bits) (λ y. joined w.bits (through w.bits (halves w.bits y))) x in_span)

  pub forward_is : (keys : List ℕ) → r ≡ fold stage_of s keys → joined r.width.bits (halves_of r) ≡ feistel_forward w.bits keys x
  forward_is keys e = joined_is (λ n h. stages (map (round n) keys) h) (rw e (stages_reach keys s))

  pub back_is : (keys : List ℕ) → r ≡ fold unstage_of s (reverse keys) → joined r.width.bits (halves_of r) ≡ feistel_back w.bits keys x
  back_is keys e = joined_is (λ n h. unstages (map (round n) keys) h) (rw e (unstages_reach keys s))
