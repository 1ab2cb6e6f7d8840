-- Sizes of programs, by the compiling table.
use Rattle.std.specs.Prelude.{ℕ, suc, ◌+◌, ◌*◌, min}
use Rattle.limits.specs.Limits.{most_steps}
use Rattle.job.specs.declared.head.Counts.{Counts}
use Rattle.semantics.specs.Program.{Program}
use Rattle.compile.specs.Construct.{Algebra, fold_in, fold}
use Rattle.compile.specs.declared.rows.Construct.{Construct}
use Rattle.compile.specs.declared.sizes.Sizes.{Sizes}

abbrev pub sized : ℕ → ℕ → Sizes
sized positions steps = record { positions = positions; steps = steps }

-- two parts, and so many more
abbrev pub sizes_sum : Sizes → Sizes → ℕ → ℕ → Sizes
sizes_sum x y positions steps = sized (x.positions + y.positions + positions) (x.steps + y.steps + steps)

abbrev pub nothing : Sizes
nothing = sized 0 0

-- a copy of the body for each of O objects
abbrev pub copies_size : ℕ → Sizes → Sizes
copies_size O x = sized (O * (x.positions + 1) + 1) (O * (x.steps + 2))

-- what a shape adds to the positions, and how many steps it has, in a job of these counts
abbrev pub size_algebra : Counts → Algebra Sizes
size_algebra c = record {
  leaf = λ s. sizes_sum nothing nothing 1 1;
  any = sizes_sum nothing nothing 1 c.moves;
  seq = λ x y. sizes_sum x y 0 0;
  branch = λ g x y. sizes_sum x y 3 4;
  loop = λ g x. sizes_sum x nothing 2 3;
  pick = copies_size c.objects;
}

-- the sizes of a program; those of a row, from those of the rows that it refers to
abbrev pub sizes_of : Counts → Program → Sizes
sizes_of c = fold (size_algebra c)

abbrev pub sizes_in : Counts → (ℕ → Sizes) → Construct → Sizes
sizes_in c = fold_in (size_algebra c)

-- sizes above the limits are all the same
abbrev pub capped : ℕ → ℕ
capped n = min n (suc most_steps)

abbrev pub capped_sizes : Sizes → Sizes
capped_sizes s = sized (capped s.positions) (capped s.steps)

-- each shape's sizes, capped
abbrev pub capped_algebra : Counts → Algebra Sizes
capped_algebra c =
    let A = size_algebra c in
    record {
      leaf = λ s. capped_sizes (A.leaf s);
      any = capped_sizes A.any;
      seq = λ x y. capped_sizes (A.seq x y);
      branch = λ g x y. capped_sizes (A.branch g x y);
      loop = λ g x. capped_sizes (A.loop g x);
      pick = λ x. capped_sizes (A.pick x);
    }
