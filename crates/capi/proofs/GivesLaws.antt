-- A call's numbers, from the answer's.
use Prim.Native.Nat.{ℕ}
use mathlib.Core.Path.{◌≡◌, ◌∙◌, ap}
use mathlib.Core.List.{List}
use Rattle.capi.specs.declared.numbers.Numbers.{Numbers}
use Rattle.capi.specs.Calls.{Gives}

-- what is handed out are the numbers of an answer that is promised
pub given_by : {A : Type 0} {numbers : A → Numbers} {promised : A → Type 0} {n : Numbers} {number : ℕ} {values : List ℕ} (a : A)
    → promised a → n ≡ numbers a → (number ≡ n.number) × (values ≡ n.values) → Gives numbers promised number values
given_by a p e h = record { answer = a; holds = p; number_is = h.0 ∙ ap (λ (m : Numbers). m.number) e; values_are = h.1 ∙ ap (λ (m : Numbers). m.values) e }

-- at most one number and one list of values are given where all answers that are promised have the
-- same
pub gives_once : {A : Type 0} {numbers : A → Numbers} {P Q : A → Type 0} {n m : ℕ} {v w : List ℕ}
    → ((a b : A) → P a → Q b → numbers a ≡ numbers b) → Gives numbers P n v → Gives numbers Q m w → (n ≡ m) × (v ≡ w)
gives_once one g h =
    let e = one g.answer h.answer g.holds h.holds in
    (cc (g.number_is, h.number_is, ap (λ (m : Numbers). m.number) e), cc (g.values_are, h.values_are, ap (λ (m : Numbers). m.values) e))
