-- The life. Of left + 1, let q be the quotient by interval + 1; then left - q writes and one copy to each interval of them are at most
-- left, and one write more would need left + 1. With half the lines set aside first, the bound on the copies says that the life pays for all.
use Rattle.std.proofs.Common.{◌≡◌, ℕ, suc, ◌+◌, ◌-◌, ◌*◌, ◌/◌, ◌%◌, ◌<◌, ◌≤◌, List, length, sym, ap, ◌∙◌, inl, inr, ⊎_elim, mod-lt, add-mul, mul-le-mul_left, div-add-mod', zero-add, mul-add, arith}
use Rattle.std.proofs.lemmas.Bool.{cases_lt}
use Rattle.std.proofs.lemmas.Nat.{div_below, le-div}
use Rattle.refresh.specs.Powers.{PowerOfTwo}
use Rattle.refresh.specs.Refresh.{first_round, copies_of_refreshes, new_registers, copies_of_writes}
use Rattle.refresh.specs.Life.{Pays, GreatestLife, payable, life_of}
use Rattle.refresh.proofs.Quotients.{quotient_mono, quotient_rises}
use Rattle.refresh.proofs.Writes.{walked, no_writes_copies}
use Rattle.refresh.proofs.Counts.{counted}

module _ (interval left : ℕ) (h : 1 ≤ interval) where
  -- the subtraction in it never stops at 0
  pub payable_room : (left + 1) / (interval + 1) ≤ left
  payable_room =
      let q = (left + 1) / (interval + 1) in
      let f = div-add-mod' (left + 1) (interval + 1) in
      let m = mul-add q interval 1 in
      let g : q * 1 ≤ q * interval = mul-le-mul_left q h in
      omega arith

  pub payable_pays : payable interval left + payable interval left / interval ≤ left
  payable_pays =
      let q = (left + 1) / (interval + 1) in
      let f = div-add-mod' (left + 1) (interval + 1) in
      let m = mul-add q interval 1 in
      let a = add-mul q 1 interval in
      let z : 0 < interval + 1 = omega arith in
      let s = mod-lt (left + 1) z in
      let g : q * 1 ≤ q * interval = mul-le-mul_left q h in
      let d = div_below (payable interval left) interval (q + 1) (omega arith) (omega arith) in
      omega arith

  pub payable_greatest : (d : ℕ) → d + d / interval ≤ left → d ≤ payable interval left
  payable_greatest d p =
      let q = (left + 1) / (interval + 1) in
      let f = div-add-mod' (left + 1) (interval + 1) in
      let m = mul-add q interval 1 in
      ⊎_elim
      (λ (l : payable interval left < d).
      let b = le-div q d interval (omega arith) (omega arith) in
      absurd (omega arith))
      (λ (l : d ≤ payable interval left). l)
      (cases_lt (payable interval left) d)

-- ---- the greatest
pub life_greatest : (interval n left : ℕ) → 1 ≤ interval → GreatestLife interval n left (life_of interval n left)
life_greatest interval n left h =
    let p = payable_pays interval (left - n / 2) h in
    record {
      pays = ⊎_elim
          (λ (l : left < n / 2). inr ((λ d x. omega arith), omega arith))
          (λ (l : n / 2 ≤ left). inl (omega arith))
          (cases_lt left (n / 2));
      greatest = λ d x. payable_greatest interval (left - n / 2) h d (omega arith);
    }

pub greatest_one : (interval n left a b : ℕ) → GreatestLife interval n left a → GreatestLife interval n left b → a ≡ b
greatest_one interval n left a b g h = ⊎_elim
    (λ (p : Pays interval n left a). ⊎_elim
    (λ (q : Pays interval n left b). let x = g.greatest b q in let y = h.greatest a p in omega arith)
    (λ (q : ((d : ℕ) → Pays interval n left d → ⊥) × (b ≡ 0)). absurd (q.0 a p))
    h.pays)
    (λ (p : ((d : ℕ) → Pays interval n left d → ⊥) × (a ≡ 0)). ⊎_elim
    (λ (q : Pays interval n left b). absurd (p.0 b q))
    (λ (q : ((d : ℕ) → Pays interval n left d → ⊥) × (b ≡ 0)). p.1 ∙ sym q.1)
    h.pays)
    g.pays

pub life_only : (interval n left life : ℕ) → 1 ≤ interval → GreatestLife interval n left life → life ≡ life_of interval n left
life_only interval n left life h g = greatest_one interval n left life (life_of interval n left) g (life_greatest interval n left h)

-- ---- it pays for all
-- fewer writes cost less
pub pays_less : (interval n left life d : ℕ) → 1 ≤ interval → Pays interval n left life → d ≤ life → Pays interval n left d
pays_less interval n left life d h p l = let q = quotient_mono d life interval h l in omega arith

pub life_covers : (n interval left : ℕ) (keys : List ℕ) (d : ℕ) → PowerOfTwo n → 1 ≤ interval → 2 ≤ length keys → d ≤ life_of interval n left
    → d + length (copies_of_writes d (new_registers n interval keys)) ≤ left
life_covers n interval left keys d p h l x =
    let life = life_of interval n left in
    let g = new_registers n interval keys in
    ⊎_elim
    (λ (y : Pays interval n left life).
    let y' : Pays interval n left d = pays_less interval n left life d h y x in
    let w = walked g d h in
    let a = ap length w.made in
    let b = ap (λ r. length (copies_of_refreshes n keys (r / interval) (first_round n keys))) (zero-add d) in
    let c = (counted n keys (d / interval) p l).most in
    omega arith)
    (λ (y : ((e : ℕ) → Pays interval n left e → ⊥) × (life ≡ 0)).
    let z = y.1 in
    let e : d ≡ 0 = omega arith in
    let a = ap (λ i. length (copies_of_writes i g)) e in
    let b = ap length (no_writes_copies g) in
    omega arith)
    (life_greatest interval n left h).pays

-- ---- what is left below pays for the next write, as a fact of one state
module _ (interval n taken life copies left : ℕ) (h : 1 ≤ interval) (l : taken < life) (paid : life + life / interval + n / 2 ≤ taken + copies + left) where
  pub room_write : copies ≤ taken / interval + n / 2 → 1 ≤ left
  room_write c = let q = quotient_mono taken life interval h (omega arith) in omega arith

  -- and for both copies, where it brings a refresh
  pub room_exchange : interval ≤ taken % interval + 1 → copies + 2 ≤ taken / interval + 1 + n / 2 → 3 ≤ left
  room_exchange d c =
      let r = quotient_rises taken interval h d in
      let e = r.0 in
      let q = quotient_mono (suc taken) life interval h (omega arith) in
      omega arith
