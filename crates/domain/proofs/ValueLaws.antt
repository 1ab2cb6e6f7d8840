-- The values of formulas, stored one behind the other in an array that is false at first.
-- Assumes nothing.
use Rattle.std.proofs.Common.{ℕ, ◌+◌, ◌≤◌, ◌<◌, ◌≡◌, sym, ◌∙◌, ap, Bool, false, List, [], ◌∷◌, ◌++◌, arith, length, get_or, take, set, replicate}
use Rattle.std.proofs.Common.{length-append}
use native.Mathlib.Decide.{dec_lt}
use lib.ListN.{get_or-append, get_or-eq_default}
use lib.Seq.{take_all, length-take-le, get_or-set_same, get_or-set_other, get_or_at}
use Rattle.laws.proofs.Lists.{replicate_default}
use Rattle.laws.proofs.Growing.{grown_length}
use Rattle.job.specs.Job.{Formula, formula_of}
use Rattle.domain.specs.State.{value, values}
use Rattle.laws.proofs.Folds.{fold_more}

-- two lists of values that tell the same
abbrev pub Same : List Bool → List Bool → Type 0
Same vs us = (a : ℕ) → get_or vs a false ≡ get_or us a false

pub none_same : (n : ℕ) → Same (replicate n false) []
none_same n a = replicate_default false n a

value_same : (w : ℕ) (vs us : List Bool) (f : Formula) → Same vs us → value w vs f ≡ value w us f
unfolding value
value_same w vs us f h = rw (h f.a, h f.b)

-- a value stored behind all that are told
stored_same : (t vs : List Bool) (k : ℕ) (x : Bool) → length vs ≡ k → k < length t → Same t vs → Same (set t k x) (vs ++ (x ∷ []))
stored_same t vs k x n h s a = elim (dec_lt a k) [
  | yes l ↦ get_or-set_other t k a x false (λ e. omega arith) ∙ s a ∙ sym (get_or-append vs (x ∷ []) false a (omega arith))
  | no l ↦ elim (dec_lt k a) [
    | yes g ↦ get_or-set_other t k a x false (λ e. omega arith) ∙ s a ∙ get_or-eq_default vs false {n = a} (omega arith)
        ∙ sym (get_or-eq_default (vs ++ (x ∷ [])) false {n = a} (omega (arith, length-append vs (x ∷ []))))
    | no g ↦ (let e : a ≡ k = omega arith in rw e (get_or-set_same t k x false h ∙ sym (get_or_at vs x [] false k n)))
  ]
]

-- one formula more
pub values_more : (w : ℕ) (fs : List Formula) (k : ℕ) (t : List Bool) (x : Bool) (f : Formula) → k < length fs → k < length t → Same t (values w (take k fs))
    → x ≡ value w t f → f ≡ get_or fs k (formula_of []) → Same (set t k x) (values w (take (k + 1) fs))
unfolding values
values_more w fs k t x f h g s d e =
    let vs : List Bool = values w (take k fs) in
    let n : length vs ≡ k = omega (arith, grown_length (value w) (take k fs) [], length-take-le k fs (omega arith)) in
    let y : x ≡ value w vs (get_or fs k (formula_of [])) = d ∙ value_same w t vs f s ∙ ap (value w vs) e in
    let m : values w (take (k + 1) fs) ≡ vs ++ (x ∷ []) =
    fold_more (λ vs f. vs ++ (value w vs f ∷ [])) (formula_of []) [] fs k h ∙ ap (λ (z : Bool). vs ++ (z ∷ [])) (sym y) in
    rw m (stored_same t vs k x n g s)

pub all_same : (w : ℕ) (fs : List Formula) (k : ℕ) (t : List Bool) → length fs ≤ k → Same t (values w (take k fs)) → Same t (values w fs)
all_same w fs k t h s = rw (take_all k fs h) at s
