-- A row's steps are written where those of its parts and then its own are.
-- Assumes nothing.
use Prim.Native.Nat.{ℕ, suc, ◌+◌, ◌*◌}
use mathlib.Core.Path.{◌≡◌, sym, ◌∙◌, ap, subst}
use mathlib.Core.Bool.{true}
use mathlib.Core.List.{List, [], ◌∷◌, ◌++◌}
use native.Mathlib.Omega.{arith}
use native.Mathlib.Numerals.{add-one}
use lib.ListN.{length}
use Rattle.job.specs.declared.head.Counts.{Counts}
use Rattle.semantics.specs.Program.{Program, pick}
use Rattle.semantics.specs.CompilingTable.{arc, end, steps, flat, move_steps, branch_steps}
use Rattle.semantics.specs.Scope.{scoped}
use Rattle.semantics.proofs.FlatLaws.{flat_append, flat_length}
use Rattle.compile.specs.Construct.{leaf_label, HasObject, first_label, second_label, loop_steps, RowSays}
use Rattle.compile.specs.Size.{sizes_of}
use Rattle.compile.specs.Laid.{next, LaidOver, StepsLaid}
use Rattle.compile.specs.declared.rows.Simple.{Simple}
use Rattle.compile.specs.declared.rows.Guard.{Guard}
use Rattle.compile.specs.declared.rows.Construct.TheVariants.{Leaf, Any, Seq, Branch, Loop, Pick}
use Rattle.compile.specs.declared.writing.Cursor.{Cursor}
use Rattle.compile.proofs.SizeLaws.{has_sizes}
use Rattle.compile.proofs.LaidLaws.{laid_append}
use Rattle.compile.proofs.Shapes.{row_steps, row_end, leaf_made, leaf_ends, branch_made, loop_made}

-- where a program's positions and steps end
pub wrote_end : {c : Counts} {env : List ℕ} {σ : Program} {old new : List ℕ} {from to : Cursor} → scoped (length env) σ ≡ true
    → StepsLaid c env σ old from new to
    → (to.position ≡ from.position + (sizes_of c σ).positions) × (to.at ≡ from.at + (sizes_of c σ).steps * 4)
wrote_end {c} {env} {σ} {old} {new} {from} {to} h w =
    let n = from.position in
    (w.ends ∙ (has_sizes c σ).ends n, omega (arith, w.laid.place, flat_length (row_steps c env σ n), (has_sizes c σ).counts env n h))

-- a part that was written, by the position that it starts at
pub starts : {c : Counts} {env : List ℕ} {σ : Program} {old new : List ℕ} {from to : Cursor} (k : ℕ) → from.position ≡ k
    → StepsLaid c env σ old from new to
    → LaidOver (flat (row_steps c env σ k)) old from.at new to.at × (to.position ≡ row_end c env σ k)
starts {c} {env} {σ} {old} {new} {from} {to} k e w =
    subst (λ (n : ℕ). LaidOver (flat (row_steps c env σ n)) old from.at new to.at × (to.position ≡ row_end c env σ n)) e (w.laid, w.ends)

module _ {c : Counts} {env : List ℕ} {of : ℕ → Program} {i : ℕ} {old new : List ℕ} {from to : Cursor} where
  pub wrote_leaf : {s : Simple} → RowSays of i (Leaf s) → HasObject env s
      → LaidOver (flat (arc (leaf_label env s) from.position (from.position + 1) ∷ [])) old from.at new to.at × (to.position ≡ from.position + 1)
      → StepsLaid c env (of i) old from new to
  wrote_leaf {s} e h x = rw e.is (record {
    laid = rw ((leaf_made c env s h).made from.position, ← (add-one from.position)) x.0;
    ends = x.1 ∙ add-one from.position ∙ sym (leaf_ends c env s from.position);
  })

  pub wrote_any : RowSays of i Any
      → LaidOver (flat (move_steps c.moves 0 from.position)) old from.at new to.at × (to.position ≡ from.position + 1)
      → StepsLaid c env (of i) old from new to
  unfolding steps end
  wrote_any e x = rw e.is (record { laid = x.0; ends = x.1 ∙ add-one from.position })

  pub wrote_seq : {a b : ℕ} {mid : List ℕ} {x : Cursor} → RowSays of i (Seq a b)
      → StepsLaid c env (of a) old from mid x → StepsLaid c env (of b) mid x new to → StepsLaid c env (of i) old from new to
  unfolding steps end
  wrote_seq {a} {b} e u w =
      let n₁ : ℕ = row_end c env (of a) from.position in
      let second = starts n₁ u.ends w in
      rw e.is (record {
        laid = rw (flat_append (row_steps c env (of a) from.position) (row_steps c env (of b) n₁)) (laid_append u.laid second.0);
        ends = second.1;
      })

  pub wrote_pick : {a : ℕ} → RowSays of i (Pick a) → StepsLaid c env (pick (of a)) old from new to → StepsLaid c env (of i) old from new to
  wrote_pick e w = rw e.is w

module _ {c : Counts} {env : List ℕ} {of : ℕ → Program} {i : ℕ} {g : Guard} {a : ℕ} {old l₁ new : List ℕ} (from : Cursor) {x to : Cursor} where
  pub wrote_branch : {b : ℕ} {l₂ : List ℕ} {y : Cursor} → RowSays of i (Branch g a b)
      → StepsLaid c env (of a) old (next from) l₁ x → StepsLaid c env (of b) l₁ (next x) l₂ y
      → LaidOver (flat (branch_steps (first_label g) (second_label g) from.position x.position y.position)) l₂ y.at new to.at
      × (to.position ≡ y.position + 1)
      → StepsLaid c env (of i) old from new to
  wrote_branch {b} {l₂} {y} e u w z =
      let n : ℕ = from.position in
      let n₁ : ℕ = row_end c env (of a) (suc n) in
      let s = branch_made c env g (of a) (of b) in
      let first = starts (suc n) (add-one n) u in
      let second = starts (suc n₁) (add-one x.position ∙ ap suc first.1) w in
      let own : LaidOver (flat (branch_steps (first_label g) (second_label g) n n₁ (row_end c env (of b) (suc n₁)))) l₂ y.at new to.at =
      rw (← second.1, ← first.1) z.0 in
      let A = row_steps c env (of a) (suc n) in
      let B = row_steps c env (of b) (suc n₁) in
      rw e.is (record {
        laid = rw (s.made n, flat_append (A ++ B) _, flat_append A B) (laid_append (laid_append first.0 second.0) own);
        ends = z.1 ∙ add-one y.position ∙ ap suc second.1 ∙ sym (s.ends n);
      })

  pub wrote_loop : RowSays of i (Loop g a) → StepsLaid c env (of a) old (next from) l₁ x
      → LaidOver (flat (loop_steps g from.position x.position)) l₁ x.at new to.at × (to.position ≡ x.position + 1)
      → StepsLaid c env (of i) old from new to
  wrote_loop e u z =
      let n : ℕ = from.position in
      let s = loop_made c env g (of a) in
      let first = starts (suc n) (add-one n) u in
      rw e.is (record {
        laid = rw (s.made n, flat_append (row_steps c env (of a) (suc n)) (loop_steps g n (row_end c env (of a) (suc n))), ← first.1)
            (laid_append first.0 z.0);
        ends = z.1 ∙ add-one x.position ∙ ap suc first.1 ∙ sym (s.ends n);
      })
