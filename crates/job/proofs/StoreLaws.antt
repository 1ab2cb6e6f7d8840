-- Laws of the store: what a row that is written leaves of the others, and that it stands behind
-- those of its sort.
-- Assumes nothing.
use Prim.Native.Nat.{ℕ, zero, suc, ◌+◌, ◌*◌, ◌≤◌, ◌<◌}
use mathlib.Core.Path.{◌≡◌, refl, sym, ◌∙◌, ap}
use mathlib.Core.List.{List, [], ◌∷◌, ◌++◌}
use native.Mathlib.Omega.{arith}
use native.Mathlib.Numerals.{add-one}
use native.Mathlib.Decide.{dec_lt}
use lib.ListN.{length, get_or, length-append, get_or-append}
use lib.Seq.{get_or-append_seam, take_all}
use borrow.Rule.Slice.PartMut.{put_mid}
use Rattle.std.proofs.lemmas.List.Edits.{sets, sets-eq}
use Rattle.std.proofs.lemmas.Slice.{put_mid-paste}
use Rattle.laws.proofs.Lists.{get_d_sets_before, get_d_sets_after, get_d_sets_in}
use Rattle.job.specs.Job.{counts_of}
use Rattle.job.specs.Store.{width, row_at, rows_from, job_of}
use Rattle.job.specs.declared.head.Head.{Head}

module _ {A : Type 0} (f : List ℕ → A) (l : List ℕ) (first : ℕ) where
  pub rows_length : (n : ℕ) → length (rows_from f l first n) ≡ n
  unfolding rows_from
  rows_length zero = refl
  rows_length (suc n) = length-append (rows_from f l first n) _ ∙ omega (arith, rows_length n)

  -- row i of its sort
  pub rows_at : (d : A) (n i : ℕ) → i < n → get_or (rows_from f l first n) i d ≡ f (row_at l (first + i))
  unfolding rows_from
  rows_at d zero i h = absurd (omega arith)
  rows_at d (suc n) i h = elim (dec_lt i n) [
    | yes k ↦ get_or-append (rows_from f l first n) _ d i (omega (arith, rows_length n)) ∙ rows_at d n i k
    | no k ↦ (let e : i ≡ length (rows_from f l first n) = omega (arith, rows_length n) in
        let g : n ≡ i = omega arith in
        ap (λ (x : ℕ). get_or (rows_from f l first n ++ (f (row_at l (first + n)) ∷ [])) x d) e
        ∙ get_or-append_seam (rows_from f l first n) _ [] d ∙ ap (λ (x : ℕ). f (row_at l (first + x))) g)
  ]

-- lists that agree on a sort's rows hold the same rows of it
pub rows_same : {A : Type 0} (f : List ℕ → A) (l m : List ℕ) (first n : ℕ)
    → ((k : ℕ) → first * width ≤ k → k < (first + n) * width → get_or l k 0 ≡ get_or m k 0) → rows_from f l first n ≡ rows_from f m first n
unfolding rows_from
rows_same f l m first zero h = refl
rows_same f l m first (suc n) h =
    let i : ℕ = first + n in
    rw (
      rows_same f l m first n (λ k p q. h k p (omega arith)),
      h (i * width) (omega arith) (omega arith),
      h (i * width + 1) (omega arith) (omega arith),
      h (i * width + 2) (omega arith) (omega arith),
      h (i * width + 3) (omega arith) (omega arith),
      h (i * width + 4) (omega arith) (omega arith),
      h (i * width + 5) (omega arith) (omega arith),
      h (i * width + 6) (omega arith) (omega arith),
      h (i * width + 7) (omega arith) (omega arith),
    )

-- what holds of every eight numbers holds of a list of eight
pub by_columns : (P : List ℕ → Type 0) → ((a b c d e f g h : ℕ) → P (a ∷ b ∷ c ∷ d ∷ e ∷ f ∷ g ∷ h ∷ [])) → (v : List ℕ) → length v ≡ width → P v
by_columns P x [] e = absurd (omega arith)
by_columns P x (a ∷ []) e = absurd (omega arith)
by_columns P x (a ∷ b ∷ []) e = absurd (omega arith)
by_columns P x (a ∷ b ∷ c ∷ []) e = absurd (omega arith)
by_columns P x (a ∷ b ∷ c ∷ d ∷ []) e = absurd (omega arith)
by_columns P x (a ∷ b ∷ c ∷ d ∷ k ∷ []) e = absurd (omega arith)
by_columns P x (a ∷ b ∷ c ∷ d ∷ k ∷ f ∷ []) e = absurd (omega arith)
by_columns P x (a ∷ b ∷ c ∷ d ∷ k ∷ f ∷ g ∷ []) e = absurd (omega arith)
by_columns P x (a ∷ b ∷ c ∷ d ∷ k ∷ f ∷ g ∷ h ∷ []) e = x a b c d k f g h
by_columns P x (a ∷ b ∷ c ∷ d ∷ k ∷ f ∷ g ∷ h ∷ i ∷ v) e = absurd (omega arith)

-- numbers copied over those from a place on
pub put_mid_sets : (at k : ℕ) (l u v : List ℕ) → u ≡ v → length v ≡ k → at + k ≤ length l → put_mid at k l u ≡ sets l at v
put_mid_sets at k l u v e n h =
    put_mid-paste at k l u v (length v) e n refl ∙ rw (take_all (length v) v (omega arith)) (sym (sets-eq v l at (omega arith)))

-- row i written as v
module _ {A : Type 0} (f : List ℕ → A) (l : List ℕ) (i : ℕ) (v : List ℕ) (eight : length v ≡ width) (first n : ℕ) where
  abbrev put : List ℕ
  put = sets l (i * width) v

  pub put_behind : first + n ≤ i → rows_from f put first n ≡ rows_from f l first n
  put_behind h = rows_same f put l first n (λ k p q. get_d_sets_before 0 v l (i * width) k (omega arith))

  pub put_before : i < first → rows_from f put first n ≡ rows_from f l first n
  put_before h = rows_same f put l first n (λ k p q. get_d_sets_after 0 v l (i * width) k (omega arith))

  put_row : i * width + width ≤ length l → row_at put i ≡ v
  put_row h =
      let at : (j : ℕ) → j < width → get_or put (i * width + j) 0 ≡ get_or v j 0 = λ j g. get_d_sets_in 0 v l (i * width) j (omega arith) (omega arith) in
      let z : i * width + 0 ≡ i * width = omega arith in
      let e : get_or put (i * width) 0 ≡ get_or v 0 0 = ap (λ (k : ℕ). get_or put k 0) (sym z) ∙ at 0 (omega arith) in
      rw (e, at 1 (omega arith), at 2 (omega arith), at 3 (omega arith), at 4 (omega arith), at 5 (omega arith), at 6 (omega arith), at 7 (omega arith))
      (by_columns (λ u. get_or u 0 0 ∷ get_or u 1 0 ∷ get_or u 2 0 ∷ get_or u 3 0 ∷ get_or u 4 0 ∷ get_or u 5 0 ∷ get_or u 6 0 ∷ get_or u 7 0 ∷ [] ≡ u)
      (λ a b c d e f g h. refl) v eight)

  pub put_next : i ≡ first + n → i * width + width ≤ length l → rows_from f put first (n + 1) ≡ rows_from f l first n ++ (f v ∷ [])
  unfolding rows_from
  put_next e h = rw (add-one n, ← e, put_behind (omega arith), put_row h)

-- a head's counts are those of its job
pub counts_of_lem : (h : Head) (l : List ℕ) → counts_of (job_of h l) ≡ h.counts
counts_of_lem h l = simp rows_length
