-- The made shuffle answers by the definitions, which compute to the marked numbers.
use Rattle.std.proofs.Common.{◌≡◌, ℕ, ap, ◌∙◌}
use Rattle.shuffle.proofs.theorems.marked_cases.Goals as goal

pub returns-clause-answer : goal.returns-clause-answer
returns-clause-answer c =
    let is = c.in-Ok.ensures.forward in
    let zero : c.forward.result ≡ 5 = c.forward.ensures.answer ∙ ap (λ (f : ℕ → ℕ). f 0) is in
    let six : c.forward-2.result ≡ 9 = c.forward-2.ensures.answer ∙ ap (λ (f : ℕ → ℕ). f 6) is in
    let fifteen : c.forward-3.result ≡ 10 = c.forward-3.ensures.answer ∙ ap (λ (f : ℕ → ℕ). f 15) is in
    cc
