-- A stage only xors one half with a number that the other half gives, and the other half is kept beside it: so xoring again undoes it,
-- whatever the round function. That the halves keep their n bits needs of the round function only that it answers n bits.
-- Both go over to lists of stages by induction, and to numbers since a number below 4 ^ n and its halves are each other's.
use Rattle.std.specs.Prelude.{◌≡◌, ℕ, ◌/◌, ◌%◌, ◌^◌, ◌<◌, List, [], ◌∷◌, bit_xor, refl}
use Rattle.std.proofs.Common.{◌∙◌, ap, arith, pow_pos}
use Rattle.std.proofs.lemmas.Nat.{div-add-mod', div-mul-add, mod-mul-add, div_below, mod_below, mul-add-lt, xor_lt}
use Rattle.shuffle.specs.Permutations.{Undoes}
use Rattle.shuffle.specs.Network.{Halves, halves, joined, Within, stage, unstage, stages, unstages, network_span, network_forward, network_back, Narrow}
use Rattle.shuffle.specs.Powers.{xor_back, four_square}
use Rattle.shuffle.specs.Undoing.{below_undoes}

-- ---- a number and its halves
same_halves : (a b c d : ℕ) → a ≡ c → b ≡ d → ◌≡◌ {A = Halves} (record { left = a; right = b }) (record { left = c; right = d })
same_halves a b c d e f = cc

pub halves_within : (n x : ℕ) → x < network_span n → Within n (halves n x)
halves_within n x h =
    let e = four_square n in
    (div_below x (2 ^ n) (2 ^ n) (pow_pos n) (omega arith), mod_below x (2 ^ n) (pow_pos n))

-- the halves as code makes them, with the size of a half in place of 2 ^ n
pub split_is : (n x size : ℕ) → size ≡ 2 ^ n → x < network_span n
    → (let h : Halves = record { left = x / size; right = x % size } in (h ≡ halves n x) × Within n h)
split_is n x size e h = rw e (refl, halves_within n x h)

joined_below : (n : ℕ) (h : Halves) → Within n h → joined n h < network_span n
joined_below n h w =
    let e = four_square n in
    let l = mul-add-lt h.left (2 ^ n) h.right (2 ^ n) w.0 w.1 in
    omega arith

halves_joined : (n : ℕ) (h : Halves) → Within n h → halves n (joined n h) ≡ h
halves_joined n h w =
    same_halves _ _ h.left h.right (div-mul-add h.left (2 ^ n) h.right w.1) (mod-mul-add h.left (2 ^ n) h.right w.1)

joined_halves : (n x : ℕ) → joined n (halves n x) ≡ x
joined_halves n x = div-add-mod' x (2 ^ n)

-- ---- one stage
module _ (f : ℕ → ℕ) where
  pub unstage_stage : (h : Halves) → unstage f (stage f h) ≡ h
  unstage_stage h = same_halves _ _ h.left h.right refl (xor_back h.right (f h.left))

  pub stage_unstage : (h : Halves) → stage f (unstage f h) ≡ h
  stage_unstage h = same_halves _ _ h.left h.right (xor_back h.left (f h.right)) refl

  module _ (n : ℕ) (narrow : (l : ℕ) → f l < 2 ^ n) where
    pub stage_within : (h : Halves) → Within n h → Within n (stage f h)
    stage_within h w = (xor_lt n h.right (f h.left) w.1 (narrow h.left), w.0)

    pub unstage_within : (h : Halves) → Within n h → Within n (unstage f h)
    unstage_within h w = (w.1, xor_lt n h.left (f h.right) w.0 (narrow h.right))

    -- the same, as code makes them from what a round function answered
    pub stage_is : (h : Halves) (r : ℕ) → r ≡ f h.left → Within n h
        → (let k : Halves = record { left = bit_xor h.right r; right = h.left } in (k ≡ stage f h) × Within n k)
    stage_is h r e w = rw e (refl, stage_within h w)

    pub unstage_is : (h : Halves) (r : ℕ) → r ≡ f h.right → Within n h
        → (let k : Halves = record { left = h.right; right = bit_xor h.left r } in (k ≡ unstage f h) × Within n k)
    unstage_is h r e w = rw e (refl, unstage_within h w)

-- ---- a list of stages
unstages_stages : (fs : List (ℕ → ℕ)) (h : Halves) → unstages fs (stages fs h) ≡ h
unstages_stages [] h = refl
unstages_stages (f ∷ fs) h = ap (unstage f) (unstages_stages fs (stage f h)) ∙ unstage_stage f h

stages_unstages : (fs : List (ℕ → ℕ)) (h : Halves) → stages fs (unstages fs h) ≡ h
stages_unstages [] h = refl
stages_unstages (f ∷ fs) h = ap (stages fs) (stage_unstage f (unstages fs h)) ∙ stages_unstages fs h

stages_within : (n : ℕ) (fs : List (ℕ → ℕ)) → Narrow n fs → (h : Halves) → Within n h → Within n (stages fs h)
stages_within n [] narrow h w = w
stages_within n (f ∷ fs) narrow h w = stages_within n fs narrow.1 (stage f h) (stage_within f n narrow.0 h w)

unstages_within : (n : ℕ) (fs : List (ℕ → ℕ)) → Narrow n fs → (h : Halves) → Within n h → Within n (unstages fs h)
unstages_within n [] narrow h w = w
unstages_within n (f ∷ fs) narrow h w = unstage_within f n narrow.0 (unstages fs h) (unstages_within n fs narrow.1 h w)

-- ---- the whole network
-- what is done to the halves, done to the number
through : (n : ℕ) (s u : Halves → Halves) → ((h : Halves) → Within n h → Within n (s h)) → ((h : Halves) → u (s h) ≡ h)
    → (x : ℕ) → x < network_span n → joined n (u (halves n (joined n (s (halves n x))))) ≡ x
through n s u within undone x h =
    let w = within (halves n x) (halves_within n x h) in
    ap (λ (k : Halves). joined n (u k)) (halves_joined n (s (halves n x)) w)
    ∙ ap (joined n) (undone (halves n x))
    ∙ joined_halves n x

pub network_undoes : (n : ℕ) (fs : List (ℕ → ℕ)) → Narrow n fs → Undoes (network_span n) (network_forward n fs) (network_back n fs)
network_undoes n fs narrow =
    let s = stages_within n fs narrow in
    let u = unstages_within n fs narrow in
    below_undoes (network_span n) (λ x. joined n (stages fs (halves n x))) (λ x. joined n (unstages fs (halves n x)))
    (λ x h. joined_below n (stages fs (halves n x)) (s (halves n x) (halves_within n x h)))
    (λ x h. joined_below n (unstages fs (halves n x)) (u (halves n x) (halves_within n x h)))
    (through n (stages fs) (unstages fs) s (unstages_stages fs))
    (through n (unstages fs) (stages fs) u (stages_unstages fs))
