-- The program of a row is built from those of the rows that it refers to.
-- Assumes nothing.
use Prim.Native.Nat.{ℕ, ◌+◌, ◌-◌, ◌≤◌, ◌<◌}
use mathlib.Core.Path.{◌≡◌, refl, sym, ◌∙◌, ap, subst}
use mathlib.Core.List.{List, [], ◌∷◌, map}
use native.Mathlib.Omega.{arith}
use lib.ListN.{length, get_or, take}
use Rattle.laws.proofs.Tables.{get_d_map, Pairs, pair_at}
use Rattle.laws.proofs.Growing.{grown_front, grown_at}
use Rattle.limits.specs.Limits.{most_formulas, most_moves}
use Rattle.job.specs.Job.{Row, row_of, program_row_at}
use Rattle.job.specs.Fields.{row_fields, Within}
use Rattle.job.specs.Store.{job_of}
use Rattle.job.specs.WellFormed.{before_row}
use Rattle.job.specs.Stored.{Stored}
use Rattle.job.specs.declared.fields.Field.{Field}
use Rattle.job.specs.declared.head.Head.{Head}
use Rattle.job.specs.declared.head.Counts.{Counts}
use Rattle.job.proofs.RowLaws.{kind_listed}
use Rattle.job.proofs.StoredLaws.{row_count_lem, row_within}
use Rattle.semantics.specs.Program.{Program, nil}
use Rattle.compile.specs.Program.{kinds, build, programs, row_program}
use Rattle.compile.specs.Construct.{Base, constructs, construct_of, program_algebra, program_in, Refers, RowSays}
use Rattle.compile.specs.declared.rows.Simple.TheVariants.{Nil}
use Rattle.compile.specs.declared.rows.Construct.{Construct}
use Rattle.compile.specs.declared.rows.Construct.TheVariants.{Leaf}
use Rattle.compile.proofs.Shapes.{same_fold}

row_built : (program : List Row) (i : ℕ) → i < length program → row_program program i ≡ build (programs (take i program)) (get_or program i (row_of []))
unfolding programs
row_built program i h = grown_at build nil (row_of []) program i h

row_earlier : (program : List Row) (i : ℕ) → i ≤ length program → (k : ℕ) → k < i → get_or (programs (take i program)) k nil ≡ row_program program k
unfolding programs
row_earlier program i h k l = grown_front build nil program i h k l

-- the compiling table's kinds, by what they say
kinds_say : (of : ℕ → Program) (r : Row) → kinds of r ≡ map (program_in of) (constructs r)
kinds_say of r = refl

build_says : (ps : List Program) (r : Row) → build ps r ≡ program_in (λ k. get_or ps k nil) (construct_of r)
unfolding build
build_says ps r =
    ap (λ (l : List Program). get_or l r.kind nil) (kinds_say (λ k. get_or ps k nil) r)
    ∙ get_d_map (program_in (λ k. get_or ps k nil)) (constructs r) r.kind (Leaf Nil)

-- a row with right fields refers to earlier rows alone
module _ (c : Counts) (few_moves : c.moves ≤ most_moves) (few-formulas : c.formulas ≤ most_formulas) (r : Row) where
  base : {a : ℕ} (count : ℕ) → count ≤ most_formulas → a < count + 1 - c.objects → Base a
  base count h g = omega (arith, h, g)

  abbrev FieldsRefer : List Field → Construct → Type 0
  FieldsRefer fields x = Within c fields (r.a ∷ r.b ∷ r.c ∷ []) → Refers c.program x

  kinds_refer : Pairs FieldsRefer row_fields (constructs r)
  kinds_refer = (
    λ w. tt,
    (
      λ w. tt,
      (
        λ w. tt,
        (
          λ w. tt,
          (
            λ w. (w.0, w.1.0),
            (
              λ w. (w.1.0, w.1.1.0),
              (
                λ w. (w.0, w.1.0),
                (
                  λ w. w.1.0,
                  (
                    λ w. w.0,
                    (λ w. w.0, (λ w. base c.moves (omega (arith, few_moves)) w.0, (λ w. base c.formulas few-formulas w.0, tt))),
                  ),
                ),
              ),
            ),
          ),
        ),
      ),
    ),
  )

  refers_back : Within c (get_or row_fields r.kind []) (r.a ∷ r.b ∷ r.c ∷ []) → Refers c.program (construct_of r)
  refers_back w =
      pair_at FieldsRefer [] (Leaf Nil) row_fields (constructs r) kinds_refer r.kind (kind_listed c row_fields r.kind r.a (r.b ∷ r.c ∷ []) w) w

-- row i of a job, as the code reads it
pub row_says : {h : Head} {l : List ℕ} → Stored h l → (i : ℕ) → i < h.counts.program → (r : Row) → r ≡ program_row_at (job_of h l) i
    → RowSays (row_program (job_of h l).program) i (construct_of r)
row_says {h} {l} s i within r row =
    let program : List Row = (job_of h l).program in
    let low : i < length program = omega (arith, within, row_count_lem h l) in
    let ps : List Program = programs (take i program) in
    let refers : Refers i (construct_of r) =
    subst (λ (x : Row). Refers i (construct_of x)) (sym row)
    (refers_back (before_row (job_of h l) i) s.job.moves s.job.formulas (program_row_at (job_of h l) i) (row_within s i within)) in
    record {
      is = row_built program i low ∙ ap (build ps) (sym row) ∙ build_says ps r
          ∙ same_fold program_algebra (row_earlier program i (omega (arith, low))) (construct_of r) refers;
      refers = refers;
    }
