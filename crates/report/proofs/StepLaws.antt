-- The lines of a list's steps, one after another.
-- Assumes nothing.
use Rattle.std.proofs.Common.{◌≡◌, ℕ, zero, suc, ◌+◌, ◌*◌, ◌/◌, ◌≤◌, ◌<◌, List, [], ◌∷◌, ◌++◌, length, get_or, take, drop, refl, sym, ap, ◌∙◌, arith, append_assoc, append-nil, length-drop}
use Rattle.std.specs.Simd.{first_chunks}
use Rattle.std.proofs.lemmas.List.{drop-drop}
use Rattle.text.specs.Bytes.{bytes}
use Rattle.text.specs.Written.{line_text}
use Rattle.report.specs.Printout.{step_lines}

few : (l : List ℕ) → length l < 4 → step_lines l ≡ []
unfolding step_lines
few [] h = refl
few (a ∷ []) h = refl
few (a ∷ b ∷ []) h = refl
few (a ∷ b ∷ c ∷ []) h = refl
few (a ∷ b ∷ c ∷ d ∷ l) h = absurd (omega arith)

-- the line of four numbers; 115 is s
abbrev pub line_of : List ℕ → List ℕ
line_of s = line_text (115 ∷ []) (get_or s 0 0 ∷ get_or s 1 0 ∷ get_or s 2 0 ∷ get_or s 3 0 ∷ [])

first_line : (l : List ℕ) → 4 ≤ length l → step_lines l ≡ line_of (take 4 l) ++ step_lines (drop 4 l)
unfolding step_lines bytes
first_line [] h = absurd (omega arith)
first_line (a ∷ []) h = absurd (omega arith)
first_line (a ∷ b ∷ []) h = absurd (omega arith)
first_line (a ∷ b ∷ c ∷ []) h = absurd (omega arith)
first_line (a ∷ b ∷ c ∷ d ∷ l) h = refl

chunk_at : (k i : ℕ) (l : List ℕ) → i < k → get_or (first_chunks 4 k l) i [] ≡ take 4 (drop (i * 4) l)
chunk_at zero i l h = absurd (omega arith)
chunk_at (suc k) zero l h = refl
chunk_at (suc k) (suc i) l h =
    let e : 4 + i * 4 ≡ suc i * 4 = omega arith in
    chunk_at k i (drop 4 l) (omega arith) ∙ ap (take 4) (drop-drop (i * 4) 4 l ∙ ap (λ (j : ℕ). drop j l) e)

-- what is to be written from step i on
module _ (list : List ℕ) (all : List (List ℕ)) (i : ℕ) (out text : List ℕ) (x : out ++ step_lines (drop (i * 4) list) ≡ text) where
  pub step_put : all ≡ first_chunks 4 (length list / 4) list → length all ≡ length list / 4 → i < length all
      → {new : List ℕ} → new ≡ out ++ line_of (get_or all i []) → new ++ step_lines (drop ((i + 1) * 4) list) ≡ text
  step_put e n h g =
      let c : get_or all i [] ≡ take 4 (drop (i * 4) list) = ap (λ (s : List (List ℕ)). get_or s i []) e ∙ chunk_at (length list / 4) i list (omega arith) in
      let m : 4 ≤ length (drop (i * 4) list) = omega (arith, length-drop (i * 4) list) in
      let d : i * 4 + 4 ≡ (i + 1) * 4 = omega arith in
      rw (g, c, append_assoc)
      (ap (λ (t : List ℕ). out ++ t)
      (sym (first_line (drop (i * 4) list) m ∙ ap (λ (l : List ℕ). line_of (take 4 (drop (i * 4) list)) ++ step_lines l) (drop-drop 4 (i * 4) list ∙ ap (λ (j : ℕ). drop j list) d))) ∙ x)

  pub steps_put : length list / 4 ≤ i → out ≡ text
  steps_put h =
      let z : step_lines (drop (i * 4) list) ≡ [] = few (drop (i * 4) list) (omega (arith, length-drop (i * 4) list)) in
      sym (append-nil out) ∙ sym (ap (λ (t : List ℕ). out ++ t) z) ∙ x
