-- Two functions that undo each other below n still do so when each is cut off at n: a number below n never leaves, so each test is true;
-- one at or above n meets a test that is false. A function that another undoes on both sides is a permutation: it is injective since the
-- other takes equal values to equal numbers, and each number is the value at what the other makes of it.
use Rattle.std.specs.Prelude.{◌≡◌, ℕ, ◌<◌, ◌≤◌, nat_lt}
use Rattle.std.proofs.Common.{sym, ◌∙◌, ap, subst, ⊎_elim}
use Rattle.std.proofs.lemmas.Bool.{lt-ltb, le-ltb, cases_lt, cond-true, cond-false}
use Rattle.shuffle.specs.Permutations.{below, Permutes, Undoes}

pub below_in : (n : ℕ) (f : ℕ → ℕ) (x : ℕ) → x < n → below n f x ≡ f x
below_in n f x h = cond-true (nat_lt x n) (f x) x (lt-ltb x n h)

pub below_out : (n : ℕ) (f : ℕ → ℕ) (x : ℕ) → n ≤ x → below n f x ≡ x
below_out n f x h = cond-false (nat_lt x n) (f x) x (le-ltb x n h)

below_stays : (n : ℕ) (f : ℕ → ℕ) → ((x : ℕ) → x < n → f x < n) → (x : ℕ) → x < n → below n f x < n
below_stays n f s x h = subst (λ (y : ℕ). y < n) (sym (below_in n f x h)) (s x h)

below_undone : (n : ℕ) (f g : ℕ → ℕ) → ((x : ℕ) → x < n → f x < n) → ((x : ℕ) → x < n → g (f x) ≡ x)
    → (x : ℕ) → x < n → below n g (below n f x) ≡ x
below_undone n f g s u x h = ap (below n g) (below_in n f x h) ∙ below_in n g (f x) (s x h) ∙ u x h

pub below_undoes : (n : ℕ) (f g : ℕ → ℕ)
    → ((x : ℕ) → x < n → f x < n) → ((x : ℕ) → x < n → g x < n)
    → ((x : ℕ) → x < n → g (f x) ≡ x) → ((x : ℕ) → x < n → f (g x) ≡ x)
    → Undoes n (below n f) (below n g)
below_undoes n f g sf sg u v = record {
  stays = below_stays n f sf;
  back_stays = below_stays n g sg;
  undone = below_undone n f g sf u;
  back_undone = below_undone n g f sg v;
  rest = below_out n f;
  back_rest = below_out n g;
}

-- and so of every number x, where the others stay: y is f x as the code has it, and z is g y
pub undone_all : (n : ℕ) (f g : ℕ → ℕ) → ((x : ℕ) → x < n → g (f x) ≡ x) → ((x : ℕ) → n ≤ x → f x ≡ x) → ((x : ℕ) → n ≤ x → g x ≡ x)
    → (x y z : ℕ) → y ≡ f x → z ≡ g y → z ≡ x
undone_all n f g u rf rg x y z e d =
    d ∙ ap g e ∙ ⊎_elim (u x) (λ (h : n ≤ x). ap g (rf x h) ∙ rg x h) (cases_lt x n)

-- of what the two do from n on, nothing is asked
pub permutes : (n : ℕ) (f g : ℕ → ℕ)
    → ((x : ℕ) → x < n → f x < n) → ((x : ℕ) → x < n → g x < n)
    → ((x : ℕ) → x < n → g (f x) ≡ x) → ((x : ℕ) → x < n → f (g x) ≡ x)
    → Permutes n f
permutes n f g sf sg u v = record {
  within = sf;
  injective = λ x y hx hy e. sym (u x hx) ∙ ap g e ∙ u y hy;
  onto = λ y h. (g y, sg y h, v y h);
}

pub forward_permutes : (n : ℕ) (f g : ℕ → ℕ) → Undoes n f g → Permutes n f
forward_permutes n f g u = permutes n f g u.stays u.back_stays u.undone u.back_undone

pub back_permutes : (n : ℕ) (f g : ℕ → ℕ) → Undoes n f g → Permutes n g
back_permutes n f g u = permutes n g f u.back_stays u.stays u.back_undone u.undone
