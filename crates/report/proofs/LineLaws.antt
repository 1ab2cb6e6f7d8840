-- Lines, number by number.
-- Assumes nothing.
use Rattle.std.proofs.Common.{◌≡◌, ℕ, suc, ◌+◌, ◌<◌, List, [], ◌∷◌, ◌++◌, length, get_or, drop, refl, ap, ◌∙◌, append_assoc, add-one, drop-cons}
use Rattle.std.specs.List.{between}
use Rattle.std.proofs.lemmas.Slice.{first_rest}
use Rattle.text.specs.Written.{decimal, written, line_text}

-- the numbers behind the first, and the line feed
abbrev pub behind : List ℕ → List ℕ
behind [] = 10 ∷ []
behind (n ∷ ns) = 44 ∷ (decimal n ++ behind ns)

written_first : (n : ℕ) (ns : List ℕ) → written (n ∷ ns) ≡ decimal n ++ behind ns
unfolding written
written_first n [] = refl
written_first n (m ∷ ns) = ap (λ l. decimal n ++ (44 ∷ l)) (written_first m ns)

-- a line whose key is written
module _ (old key ns : List ℕ) (some : 0 < length ns) {a b : List ℕ} (e : a ≡ old ++ key) (f : b ≡ a ++ (61 ∷ [])) where
  abbrev others : List ℕ
  others = between 1 (length ns) ns

  pub first_put : {out : List ℕ} → out ≡ b ++ decimal (get_or ns 0 0) → out ++ behind (between 1 (length ns) ns) ≡ old ++ line_text key ns
  first_put g =
      let w : written ns ≡ decimal (get_or ns 0 0) ++ behind others = ap written (first_rest ns 0 some) ∙ written_first (get_or ns 0 0) others in
      rw (g, f, e, w) (simp append_assoc)

-- its numbers from the next on
pub number_put : (all others out : List ℕ) (i : ℕ) → out ++ behind (drop i others) ≡ all → i < length others → {a b : List ℕ} → a ≡ out ++ (44 ∷ [])
    → b ≡ a ++ decimal (get_or others i 0) → b ++ behind (drop (i + 1) others) ≡ all
number_put all others out i x h e f =
    let here : out ++ (44 ∷ (decimal (get_or others i 0) ++ behind (drop (suc i) others))) ≡ all = rw (drop-cons others i 0 h) at x in
    rw (f, e, add-one i) (simp append_assoc here)
