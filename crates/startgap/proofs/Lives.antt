-- The life. With q and r the parts of `left` by I + 1, q * I + t writes and their q copies take q * (I + 1) + t of the r + q * (I + 1) that
-- are left, t being the lesser of r and I - 1; any number that is paid for has a quotient by I of at most q, and so is no greater.
use Rattle.std.proofs.Common.{◌≡◌, ℕ, ◌+◌, ◌-◌, ◌*◌, ◌/◌, ◌%◌, ◌^◌, ◌<◌, ◌≤◌, min, ap, ⊎_elim, mul-le-mul_right, mod-lt, add-mul, div-add-mod', mul-add, arith}
use lib.Arith.{digits_div}
use Rattle.std.proofs.lemmas.Bool.{cases_order}
use Rattle.startgap.specs.Life.{Pays, GreatestLife, life_of}

module _ (left I : ℕ) (hi : 0 < I) where
  pub life_pays : Pays left I (life_of left I)
  life_pays =
      let t = min (left % (I + 1)) (I - 1) in
      let ht : t < I = omega arith in
      let e = digits_div (left / (I + 1)) ht in
      let f = div-add-mod' left (I + 1) in
      let m = mul-add (left / (I + 1)) I 1 in
      omega arith

  pub life_greatest : (d : ℕ) → Pays left I d → d ≤ life_of left I
  life_greatest d h =
      let q = left / (I + 1) in
      let f = div-add-mod' left (I + 1) in
      let m = mul-add q I 1 in
      let fd = div-add-mod' d I in
      let rd = mod-lt d hi in
      let pos : 0 < I + 1 = omega arith in
      let rl = mod-lt left pos in
      ⊎_elim
      (λ (z : d / I ≡ q). let y = ap (λ x. x * I) z in omega arith)
      (⊎_elim
      (λ (z : d / I < q). let y : (d / I + 1) * I ≤ q * I = mul-le-mul_right I (omega arith) in let w = add-mul (d / I) 1 I in omega arith)
      (λ (z : q < d / I). let y : (q + 1) * I ≤ d / I * I = mul-le-mul_right I (omega arith) in let w = add-mul q 1 I in absurd (omega arith)))
      (cases_order (d / I) q)

  pub greatest_life : GreatestLife left I (life_of left I)
  greatest_life = record { pays = life_pays; greatest = life_greatest }

  pub life_only : (d : ℕ) → GreatestLife left I d → d ≡ life_of left I
  life_only d g = let a = life_greatest d g.pays in let b = g.greatest (life_of left I) life_pays in omega arith

-- at the interval 0 it is 0
pub life_within : (left I : ℕ) → life_of left I ≤ left
life_within left I =
    let f = div-add-mod' left (I + 1) in
    let m = mul-add (left / (I + 1)) I 1 in
    omega arith

pub life_narrow : (left I : ℕ) → left < 2 ^ 32 → life_of left I < 2 ^ 32
life_narrow left I h = let w = life_within left I in omega arith
