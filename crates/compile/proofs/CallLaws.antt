-- What the compiler asks of its calls: earlier rows, variables that have objects, and room for each
-- part of a row.
-- Assumes nothing.
use Prim.Native.Nat.{ℕ, ◌+◌, ◌*◌, ◌≤◌, ◌<◌}
use mathlib.Core.Path.{◌≡◌, refl, sym, ◌∙◌, ap, subst}
use mathlib.Core.Bool.{true, ◌&&◌}
use mathlib.Core.List.{List, ◌∷◌}
use native.Mathlib.Omega.{arith}
use lib.ListN.{length, drop}
use Rattle.laws.proofs.Tests.{and_left, and_right}
use Rattle.limits.specs.Limits.{most_objects, most_positions, most_program}
use Rattle.job.specs.Store.{job_of}
use Rattle.job.specs.Stored.{Stored}
use Rattle.job.proofs.StoredLaws.{limited}
use Rattle.job.specs.declared.head.Counts.{Counts}
use Rattle.job.specs.declared.head.Head.{Head}
use Rattle.semantics.specs.Program.{Program, pick}
use Rattle.semantics.specs.Scope.{scoped}
use Rattle.compile.specs.Program.{row_program}
use Rattle.compile.specs.Construct.{BaseRight, HasObject, program_in, RowSays}
use Rattle.compile.specs.Size.{size_algebra, sizes_of, sizes_in}
use Rattle.compile.specs.Laid.{next, StepsLaid, RowLaid, Enough}
use Rattle.compile.specs.declared.rows.Simple.{Simple}
use Rattle.compile.specs.declared.rows.Guard.{Guard}
use Rattle.compile.specs.declared.rows.Construct.{Construct}
use Rattle.compile.specs.declared.rows.Construct.TheVariants.{Leaf, Any, Seq, Branch, Loop, Pick}
use Rattle.compile.specs.declared.sizes.Sizes.{Sizes}
use Rattle.compile.specs.declared.writing.Cursor.{Cursor}
use Rattle.compile.proofs.Shapes.{branch_scoped, loop_scoped, has_object, row_gives}
use Rattle.compile.proofs.StepsLaidLaws.{wrote_end}
use Rattle.compile.proofs.PickLaws.{CopiesLaid, copied_none, copied_more, copy_room, copy_next}

module _ (h : Head) (l : List ℕ) where
  abbrev pub of : ℕ → Program
  of = row_program (job_of h l).program

  abbrev pub sizes : ℕ → Sizes
  sizes k = sizes_of h.counts (of k)

  -- what a call for row i asks, and one for a pick whose body is row a; it holds of the call that is
  -- being made
  abbrev pub Fit : ℕ → Cursor → List ℕ → ℕ → Type 0
  Fit i from env places = ((i < h.counts.program) × (length env + i < most_program)) × Enough h.counts env (of i) from places

  abbrev pub PickFit : ℕ → Cursor → List ℕ → ℕ → Type 0
  PickFit a from env places = ((a < h.counts.program) × (length env + a + 1 < most_program)) × Enough h.counts env (pick (of a)) from places

-- what holds inside picks of some objects holds where these are the same
pub in_env : {c : Counts} {e₁ e₂ : List ℕ} {σ : Program} {old new : List ℕ} {from to : Cursor} → e₂ ≡ e₁ → StepsLaid c e₂ σ old from new to
    → StepsLaid c e₁ σ old from new to
in_env {c} {e₁} {e₂} {σ} {old} {new} {from} {to} e w = subst (λ (x : List ℕ). StepsLaid c x σ old from new to) e w

module _ {h : Head} {l : List ℕ} {i t places : ℕ} {from : Cursor} {env : List ℕ} (stored : Stored h l) (p : (2 * i ≡ t) × Fit h l i from env places) where
  abbrev c : Counts
  c = h.counts

  abbrev d : ℕ
  d = length env

  -- the room that a row has, and that its variables have objects, by what it says
  room : (r : Construct) → RowSays (of h l) i r
      → (from.position + (sizes_in c (sizes h l) r).positions < most_positions) × (from.at + (sizes_in c (sizes h l) r).steps * 4 ≤ places)
  room r s =
      let e : sizes h l i ≡ sizes_in c (sizes h l) r = row_gives (size_algebra c) s in
      (rw (← e) p.1.1.positions, rw (← e) p.1.1.room)

  variables : (r : Construct) → RowSays (of h l) i r → scoped d (program_in (of h l) r) ≡ true
  variables r s = rw s.is at p.1.1.variables

  -- a call for an earlier row, after others that have kept the objects
  call : {j z : ℕ} {x : Cursor} {env₂ : List ℕ} → j < i → z ≡ places → env₂ ≡ env → Enough c env (of h l j) x places → (2 * j < t) × Fit h l j x env₂ z
  call {j} {z} {x} g e k r = (omega (arith, g, p.0), rw (k, e) ((omega (arith, g, p.1.0.0), omega (arith, g, p.1.0.1)), r))

  -- a position has one after it
  pub next_ok : from.position < 65535
  next_ok = omega (arith, p.1.1.positions)

  pub leaf_object : {s : Simple} → RowSays (of h l) i (Leaf s) → HasObject env s
  leaf_object {s} x = has_object env s (variables (Leaf s) x)

  pub leaf_ok : {s : Simple} → RowSays (of h l) i (Leaf s)
      → (BaseRight s × HasObject env s) × ((from.at + 4 ≤ places) × (from.position < 65535))
  leaf_ok {s} x = ((x.refers, leaf_object x), (omega (arith, (room (Leaf s) x).1), next_ok))

  pub any_ok : RowSays (of h l) i Any → (from.at + c.moves * 4 ≤ places) × (from.position < 65535)
  any_ok x = (omega (arith, (room Any x).1), next_ok)

  -- of both parts
  both : (a b : ℕ) → scoped d (of h l a) && scoped d (of h l b) ≡ true → (scoped d (of h l a) ≡ true) × (scoped d (of h l b) ≡ true)
  both a b v = (and_left (scoped d (of h l a)) _ v, and_right (scoped d (of h l a)) _ v)

  module _ {a b : ℕ} (s : RowSays (of h l) i (Seq a b)) where
    seq_variables : (scoped d (of h l a) ≡ true) × (scoped d (of h l b) ≡ true)
    unfolding scoped
    seq_variables = both a b (variables (Seq a b) s)

    pub seq_first : (2 * a < t) × Fit h l a from env places
    seq_first =
        let q = room (Seq a b) s in
        call s.refers.0 refl refl (record { variables = seq_variables.0; positions = omega (arith, q.0); room = omega (arith, q.1) })

    pub seq_second : {old mid env₂ : List ℕ} {x : Cursor} {z : ℕ} → z ≡ places
        → RowLaid c (of h l a) env old from mid x env₂ → (2 * b < t) × Fit h l b x env₂ z
    seq_second e w =
        let q = room (Seq a b) s in
        let v = wrote_end seq_variables.0 w.steps in
        call s.refers.1 e w.kept (record { variables = seq_variables.1; positions = omega (arith, q.0, v.0); room = omega (arith, q.1, v.1) })

  module _ {g : Guard} {a b : ℕ} (s : RowSays (of h l) i (Branch g a b)) where
    branch_variables : (scoped d (of h l a) ≡ true) × (scoped d (of h l b) ≡ true)
    branch_variables = both a b (sym (branch_scoped d g (of h l a) (of h l b)) ∙ variables (Branch g a b) s)

    pub branch_first : (2 * a < t) × Fit h l a (next from) env places
    branch_first =
        let q = room (Branch g a b) s in
        call s.refers.0 refl refl (record { variables = branch_variables.0; positions = omega (arith, q.0); room = omega (arith, q.1) })

    module _ {old mid env₂ : List ℕ} {x : Cursor} (w : RowLaid c (of h l a) env old (next from) mid x env₂) where
      abbrev first_end : (x.position ≡ from.position + 1 + (sizes h l a).positions) × (x.at ≡ from.at + (sizes h l a).steps * 4)
      first_end = wrote_end branch_variables.0 w.steps

      pub branch_next : x.position < 65535
      branch_next = omega (arith, (room (Branch g a b) s).0, first_end.0)

      pub branch_second : {z : ℕ} → z ≡ places → (2 * b < t) × Fit h l b (next x) env₂ z
      branch_second e =
          let q = room (Branch g a b) s in
          let v = first_end in
          call s.refers.1 e w.kept
          (record { variables = branch_variables.1; positions = omega (arith, q.0, v.0); room = omega (arith, q.1, v.1) })

      pub branch_ok : {new env₃ : List ℕ} {y : Cursor} {z : ℕ} → z ≡ places → RowLaid c (of h l b) env₂ mid (next x) new y env₃
          → (y.at + 16 ≤ z) × (from.position < 65535) × (x.position < 65535) × (y.position < 65535)
      branch_ok e u =
          let q = room (Branch g a b) s in
          let v = first_end in
          let k = wrote_end branch_variables.1 (in_env w.kept u.steps) in
          (omega (arith, e, q.1, v.1, k.1), next_ok, branch_next, omega (arith, q.0, v.0, k.0))

  module _ {g : Guard} {a : ℕ} (s : RowSays (of h l) i (Loop g a)) where
    loop_variables : scoped d (of h l a) ≡ true
    loop_variables = sym (loop_scoped d g (of h l a)) ∙ variables (Loop g a) s

    pub loop_first : (2 * a < t) × Fit h l a (next from) env places
    loop_first =
        let q = room (Loop g a) s in
        call s.refers refl refl (record { variables = loop_variables; positions = omega (arith, q.0); room = omega (arith, q.1) })

    pub loop_ok : {old mid env₂ : List ℕ} {x : Cursor} {z : ℕ} → z ≡ places → RowLaid c (of h l a) env old (next from) mid x env₂
        → (x.at + 12 ≤ z) × (from.position < 65535) × (x.position < 65535)
    loop_ok e w =
        let q = room (Loop g a) s in
        let v = wrote_end loop_variables w.steps in
        (omega (arith, e, q.1, v.1), next_ok, omega (arith, q.0, v.0))

  pub pick_first : {a : ℕ} → RowSays (of h l) i (Pick a) → (2 * a + 1 < t) × PickFit h l a from env places
  pick_first s = (omega (arith, s.refers, p.0), ((omega (arith, s.refers, p.1.0.0), omega (arith, s.refers, p.1.0.1)), rw s.is at p.1.1))

-- the first o copies of the body of a pick are laid, and the objects are kept
pub record Copied (c : Counts) (σ : Program) (env old : List ℕ) (from : Cursor) (o : ℕ) (list : List ℕ) (last : Cursor) (env₂ : List ℕ) : Type 0 where
  pub copies : CopiesLaid c env σ old from o list last
  pub kept : env₂ ≡ env

-- the calls of a pick whose body is row a
module _ {h : Head} {l : List ℕ} {a t places : ℕ} {from : Cursor} {env : List ℕ} (stored : Stored h l)
    (p : (2 * a + 1 ≡ t) × PickFit h l a from env places) where
  module _ {old list env₂ : List ℕ} {last : Cursor} {o : ℕ} (k : Copied h.counts (of h l a) env old from o list last env₂) (g : o < h.counts.objects) where
    pub enter_ok : (length env₂ < most_program) × (o < most_objects)
    enter_ok = (rw k.kept (omega (arith, p.1.0.1)), omega (arith, g, (limited stored).objects))

    module _ {env₃ : List ℕ} (e : env₃ ≡ o ∷ env₂) where
      inside_is : env₃ ≡ o ∷ env
      inside_is = e ∙ ap (λ (x : List ℕ). o ∷ x) k.kept

      -- the copy of an object
      pub copy_first : length old ≡ places → (2 * a < t) × Fit h l a last env₃ (length list)
      copy_first q = (omega (arith, p.0), ((p.1.0.0, rw inside_is (omega (arith, p.1.0.1))), copy_room p.1.1 q k.copies g inside_is))

      module _ {new env₄ : List ℕ} {x : Cursor} (w : RowLaid h.counts (of h l a) env₃ list last new x env₄) where
        pub next_copy : length old ≡ places → x.position < 65535
        next_copy q = copy_next p.1.1 q k.copies g inside_is w.steps

        pub one_copied : {env₅ : List ℕ} → env₅ ≡ drop 1 env₄ → length new ≡ length list
            → Copied h.counts (of h l a) env old from (o + 1) new (next x) env₅
        one_copied n q = record {
          copies = copied_more k.copies g inside_is w.steps q;
          kept = n ∙ ap (drop 1) (w.kept ∙ inside_is);
        }

pub none_copied : {c : Counts} {σ : Program} {env old : List ℕ} {from : Cursor} → Copied c σ env old from 0 old (next from) env
none_copied = record { copies = copied_none; kept = refl }

pub some_object : {objects : ℕ} → (objects ≡ 0 → ⊥) → 0 < objects
some_object h = omega (arith, h)
