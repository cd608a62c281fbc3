-- A round function answers n bits since it ends in a remainder by 2 ^ n, and that is all that the network's law asks of it.
-- What the code computes stage by stage is the network's list of stages, since a list of three keys is its three elements.
use Rattle.std.specs.Prelude.{◌≡◌, ℕ, ◌*◌, ◌%◌, ◌^◌, ◌<◌, ◌≤◌, List, [], ◌∷◌, map, length, bit_xor, slice_index, refl}
use Rattle.std.proofs.Common.{sym, ◌∙◌, ap, arith, pow_pos}
use Rattle.std.proofs.lemmas.Nat.{mod_below, xor_lt}
use Rattle.shuffle.specs.Permutations.{Undoes}
use Rattle.shuffle.specs.Network.{Halves, halves, joined, stage, unstage, stages, unstages, Narrow}
use Rattle.shuffle.specs.Feistel.{round, feistel_span, feistel_forward, feistel_back}
use Rattle.shuffle.specs.Powers.{square_fits}
use Rattle.shuffle.specs.Undoing.{below_in}
use Rattle.shuffle.specs.Networks.{network_undoes}

pub round_narrow : (n key l : ℕ) → round n key l < 2 ^ n
round_narrow n key l = mod_below _ (2 ^ n) (pow_pos n)

rounds_narrow : (n : ℕ) (keys : List ℕ) → Narrow n (map (round n) keys)
rounds_narrow n [] = tt
rounds_narrow n (key ∷ keys) = (round_narrow n key, rounds_narrow n keys)

pub feistel_undoes : (n : ℕ) (keys : List ℕ) → Undoes (feistel_span n) (feistel_forward n keys) (feistel_back n keys)
feistel_undoes n keys = network_undoes n (map (round n) keys) (rounds_narrow n keys)

-- what the code squares, with the size of a half in place of 2 ^ n
pub mixed_fits : (n half key size : ℕ) → size ≡ 2 ^ n → n ≤ 6 → half < 2 ^ n → bit_xor half (key % size) * bit_xor half (key % size) < 65536
mixed_fits n half key size e h l =
    rw e (square_fits n (bit_xor half (key % 2 ^ n)) h (xor_lt n half (key % 2 ^ n) l (mod_below key (2 ^ n) (pow_pos n))))

three : (xs : List ℕ) → length xs ≡ 3 → xs ≡ slice_index xs 0 ∷ slice_index xs 1 ∷ slice_index xs 2 ∷ []
three [] e = absurd (omega arith)
three (a ∷ []) e = absurd (omega arith)
three (a ∷ b ∷ []) e = absurd (omega arith)
three (a ∷ b ∷ c ∷ []) e = refl
three (a ∷ b ∷ c ∷ d ∷ xs) e = absurd (omega arith)

-- the halves h0 and those after each stage, and the number r that is joined of the last
module _ (n : ℕ) (keys : List ℕ) (long : length keys ≡ 3) (x : ℕ) (in_span : x < feistel_span n) (h0 h1 h2 h3 : Halves) (r : ℕ)
    (split : h0 ≡ halves n x) (join : r ≡ joined n h3) where
  pub forward_is :
      h1 ≡ stage (round n (slice_index keys 0)) h0 → h2 ≡ stage (round n (slice_index keys 1)) h1 → h3 ≡ stage (round n (slice_index keys 2)) h2
      → r ≡ feistel_forward n keys x
  forward_is e1 e2 e3 =
      let F : List ℕ → ℕ = λ ks. joined n (stages (map (round n) ks) (halves n x)) in
      let three_stages : h3 ≡ stages (map (round n) (slice_index keys 0 ∷ slice_index keys 1 ∷ slice_index keys 2 ∷ [])) (halves n x) =
      e3 ∙ ap (stage (round n (slice_index keys 2))) (e2 ∙ ap (stage (round n (slice_index keys 1))) (e1 ∙ ap (stage (round n (slice_index keys 0))) split)) in
      join ∙ ap (joined n) three_stages ∙ ap F (sym (three keys long)) ∙ sym (below_in (feistel_span n) (λ y. joined n (stages (map (round n) keys) (halves n y))) x in_span)

  pub back_is :
      h1 ≡ unstage (round n (slice_index keys 2)) h0 → h2 ≡ unstage (round n (slice_index keys 1)) h1 → h3 ≡ unstage (round n (slice_index keys 0)) h2
      → r ≡ feistel_back n keys x
  back_is e1 e2 e3 =
      let F : List ℕ → ℕ = λ ks. joined n (unstages (map (round n) ks) (halves n x)) in
      let three_stages : h3 ≡ unstages (map (round n) (slice_index keys 0 ∷ slice_index keys 1 ∷ slice_index keys 2 ∷ [])) (halves n x) =
      e3 ∙ ap (unstage (round n (slice_index keys 0))) (e2 ∙ ap (unstage (round n (slice_index keys 1))) (e1 ∙ ap (unstage (round n (slice_index keys 2))) split)) in
      join ∙ ap (joined n) three_stages ∙ ap F (sym (three keys long)) ∙ sym (below_in (feistel_span n) (λ y. joined n (unstages (map (round n) keys) (halves n y))) x in_span)
