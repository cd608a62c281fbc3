-- A Feistel network with any round functions: a number in two halves of n bits, its stages, and their undoing. Assumes nothing.
use Rattle.std.specs.Prelude.{ℕ, ◌+◌, ◌*◌, ◌/◌, ◌%◌, ◌^◌, ◌<◌, List, [], ◌∷◌, bit_xor}
use Rattle.shuffle.specs.Permutations.{below, Undoes}

-- two halves of a number, the high and the low
pub record Halves : Type 0 where
  pub left : ℕ
  pub right : ℕ

-- the halves of a number of 2 n bits: its high n bits and its low n bits
abbrev pub halves : ℕ → ℕ → Halves
halves n x = record { left = x / 2 ^ n; right = x % 2 ^ n }

-- the number that has these halves
abbrev pub joined : ℕ → Halves → ℕ
joined n h = h.left * 2 ^ n + h.right

-- each half has n bits
abbrev pub Within : ℕ → Halves → Type 0
Within n h = (h.left < 2 ^ n) × (h.right < 2 ^ n)

-- a stage with the round function f
abbrev pub stage : (ℕ → ℕ) → Halves → Halves
stage f h = record { left = bit_xor h.right (f h.left); right = h.left }

-- what undoes it
abbrev pub unstage : (ℕ → ℕ) → Halves → Halves
unstage f h = record { left = h.right; right = bit_xor h.left (f h.right) }

-- a stage for each round function, in order
abbrev pub stages : List (ℕ → ℕ) → Halves → Halves
stages [] h = h
stages (f ∷ fs) h = stages fs (stage f h)

-- what undoes them, the last stage first
abbrev pub unstages : List (ℕ → ℕ) → Halves → Halves
unstages [] h = h
unstages (f ∷ fs) h = unstage f (unstages fs h)

-- the numbers of 2 n bits are those below this
abbrev pub network_span : ℕ → ℕ
network_span n = 4 ^ n

-- where a number goes, and where it came from
abbrev pub network_forward : ℕ → List (ℕ → ℕ) → ℕ → ℕ
network_forward n fs = below (network_span n) (λ x. joined n (stages fs (halves n x)))

abbrev pub network_back : ℕ → List (ℕ → ℕ) → ℕ → ℕ
network_back n fs = below (network_span n) (λ x. joined n (unstages fs (halves n x)))

-- each round function answers numbers of n bits
abbrev pub Narrow : ℕ → List (ℕ → ℕ) → Type 0
Narrow n [] = Unit {0}
Narrow n (f ∷ fs) = ((l : ℕ) → f l < 2 ^ n) × Narrow n fs

-- whatever the round functions, as long as they answer numbers of n bits, back undoes forward
abbrev pub NetworkUndoes : Type 0
NetworkUndoes = (n : ℕ) (fs : List (ℕ → ℕ)) → Narrow n fs → Undoes (network_span n) (network_forward n fs) (network_back n fs)
