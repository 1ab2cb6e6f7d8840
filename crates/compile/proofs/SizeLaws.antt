-- Sizes of programs by their shape, and a row's sizes from those of earlier rows.
-- Assumes nothing.
use Prim.Native.Nat.{ℕ, zero, suc, ◌+◌, ◌*◌, ◌≤◌}
use mathlib.Core.Path.{◌≡◌, refl, sym, ◌∙◌, ap}
use mathlib.Core.Bool.{true, ◌&&◌}
use mathlib.Core.List.{List, [], ◌∷◌}
use native.Mathlib.Omega.{arith}
use native.Mathlib.Decide.{dec_lt}
use native.Mathlib.Nat.{mul-le-mul_right}
use lib.ListN.{length, length-append}
use Rattle.laws.proofs.Tests.{and_left, and_right}
use Rattle.limits.specs.Limits.{most_steps}
use Rattle.job.specs.declared.head.Counts.{Counts}
use Rattle.semantics.specs.Label.{noop}
use Rattle.semantics.specs.Program.{Program, any, seq, pick}
use Rattle.semantics.specs.CompilingTable.{Step, arc, copy_start, end, copies, steps, move_steps, branch_steps, while_steps, star_steps, pick_steps}
use Rattle.semantics.specs.Scope.{scoped}
use Rattle.compile.specs.Construct.{simple, branch, loop, loop_steps, by_shape, fold}
use Rattle.compile.specs.Size.{sizes_sum, nothing, copies_size, size_algebra, sizes_of, capped, capped_sizes, capped_algebra}
use Rattle.compile.specs.declared.rows.Simple.{Simple}
use Rattle.compile.specs.declared.rows.Guard.{Guard}
use Rattle.compile.specs.declared.rows.Guard.TheVariants.{Free, On}
use Rattle.compile.specs.declared.sizes.Sizes.{Sizes}
use Rattle.compile.proofs.Shapes.{leaf_made, leaf_ends, branch_made, loop_made, branch_scoped, loop_scoped, has_object}
use Rattle.compile.proofs.Shapes.{fold_leaf, fold_branch, fold_loop}

pub moves_count : (count a n : ℕ) → length (move_steps count a n) ≡ count
unfolding move_steps
moves_count zero a n = refl
moves_count (suc count) a n = ap suc (moves_count count (suc a) n)

glue_count : (g : Guard) (n p : ℕ) → length (loop_steps g n p) ≡ 3
unfolding while_steps star_steps
glue_count Free n p = refl
glue_count (On f) n p = refl

-- lists of one length for each object
pub copies_count : (k each : ℕ) (g : ℕ → List Step) → ((o : ℕ) → length (g o) ≡ each) → length (copies k g) ≡ k * each
unfolding copies
copies_count zero each g h = omega arith
copies_count (suc k) each g h = simp length-append (omega (arith, copies_count k each g h, h k))

pick_count : (O n : ℕ) (starts ends : ℕ → ℕ) → length (pick_steps O n starts ends) ≡ O * 2
unfolding pick_steps
pick_count O n starts ends =
    simp length-append
    (omega (arith, copies_count O 1 (λ o. arc noop n (starts o) ∷ []) (λ o. refl), copies_count O 1 (λ o. arc noop (ends o) (starts O) ∷ []) (λ o. refl)))

-- a product of two numbers of 16 bits, or two more
pub product_low : (a b : ℕ) → a ≤ 65535 → b ≤ 65537 → a * b ≤ 4294967295
product_low a b h g = omega (arith, mul-le-mul_right b h, g)

-- the copy of a pick's body for object o, where the pick is compiled from n
abbrev pub copy_of : Counts → List ℕ → Program → ℕ → ℕ → List Step
copy_of c env σ n o = steps c.moves c.objects (o ∷ env) σ (copy_start (end c.objects σ) n o)

-- where copies start whose ends are so far from their starts
pub start_at : (ends : ℕ → ℕ) (w : ℕ) → ((n : ℕ) → ends n ≡ n + w) → (n o : ℕ) → copy_start ends n o ≡ n + 1 + (w + 1) * o
unfolding copy_start
start_at ends w h n zero = omega arith
start_at ends w h n (suc o) = omega (arith, h (copy_start ends n o), start_at ends w h n o)

module _ (c : Counts) where
  -- a program has these sizes from wherever it is compiled, where its variables have objects
  pub record Sized (σ : Program) (s : Sizes) : Type 0 where
    pub ends : (n : ℕ) → end c.objects σ n ≡ n + s.positions
    pub counts : (env : List ℕ) (n : ℕ) → scoped (length env) σ ≡ true → length (steps c.moves c.objects env σ n) ≡ s.steps

  leaf_sized : (s : Simple) → Sized (simple s) (sizes_sum nothing nothing 1 1)
  leaf_sized s = record {
    ends = λ n. omega (arith, leaf_ends c [] s n);
    counts = λ env n h. rw ((leaf_made c env s (has_object env s h)).made n);
  }

  any_sized : Sized any (sizes_sum nothing nothing 1 c.moves)
  unfolding steps end
  any_sized = record { ends = λ n. omega arith; counts = λ env n h. omega (arith, moves_count c.moves 0 n) }

  module _ {a b : Program} {x y : Sizes} (u : Sized a x) (v : Sized b y) where
    seq_sized : Sized (seq a b) (sizes_sum x y 0 0)
    unfolding steps end scoped
    seq_sized = record {
      ends = λ n. omega (arith, v.ends (end c.objects a n), u.ends n);
      counts = λ env n h.
          let d = length env in
          simp length-append
          (omega (arith, u.counts env n (and_left (scoped d a) (scoped d b) h), v.counts env (end c.objects a n) (and_right (scoped d a) (scoped d b) h)));
    }

    branch_sized : (g : Guard) → Sized (branch g a b) (sizes_sum x y 3 4)
    unfolding branch_steps
    branch_sized g = record {
      ends = λ n. omega (arith, (branch_made c [] g a b).ends n, v.ends (suc (end c.objects a (suc n))), u.ends (suc n));
      counts = λ env n h.
          let d = length env in
          let both : scoped d a && scoped d b ≡ true = sym (branch_scoped d g a b) ∙ h in
          rw ((branch_made c env g a b).made n) (simp length-append
          (omega (
            arith,
            u.counts env (suc n) (and_left (scoped d a) (scoped d b) both),
            v.counts env (suc (end c.objects a (suc n))) (and_right (scoped d a) (scoped d b) both),
          )));
    }

  module _ {a : Program} {x : Sizes} (u : Sized a x) where
    loop_sized : (g : Guard) → Sized (loop g a) (sizes_sum x nothing 2 3)
    loop_sized g = record {
      ends = λ n. omega (arith, (loop_made c [] g a).ends n, u.ends (suc n));
      counts = λ env n h. rw ((loop_made c env g a).made n) (simp length-append
          (omega (arith, u.counts env (suc n) (sym (loop_scoped (length env) g a) ∙ h), glue_count g n (end c.objects a (suc n)))));
    }

    -- the steps of all copies of a pick's body
    pub body_count : (env : List ℕ) (n k : ℕ) → scoped (length env) (pick a) ≡ true → length (copies k (copy_of c env a n)) ≡ k * x.steps
    unfolding scoped
    body_count env n k h = copies_count k x.steps (copy_of c env a n) (λ o. u.counts (o ∷ env) (copy_start (end c.objects a) n o) h)

    pick_sized : Sized (pick a) (copies_size c.objects x)
    unfolding steps end
    pick_sized = record {
      ends = λ n. omega (arith, start_at (end c.objects a) x.positions u.ends n c.objects);
      counts = λ env n h.
          let starts : ℕ → ℕ = copy_start (end c.objects a) n in
          simp length-append
          (omega (arith, body_count env n c.objects h, pick_count c.objects n starts (λ o. end c.objects a (starts o))));
    }

  pub has_sizes : (σ : Program) → Sized σ (sizes_of c σ)
  unfolding fold
  has_sizes = by_shape (λ σ. Sized σ (sizes_of c σ)) (λ s. rw (fold_leaf _ s) (leaf_sized s)) any_sized (λ a b u v. seq_sized u v)
      (λ g a b u v. rw (fold_branch _ g a b) (branch_sized u v g)) (λ g a u. rw (fold_loop _ g a) (loop_sized u g)) (λ a u. pick_sized u)

  -- sums of capped sizes, capped, are capped sums
  capped_parts : (x y x₁ y₁ : Sizes) (p q : ℕ) → x₁ ≡ capped_sizes x → y₁ ≡ capped_sizes y
      → capped_sizes (sizes_sum x₁ y₁ p q) ≡ capped_sizes (sizes_sum x y p q)
  capped_parts x y x₁ y₁ p q e f =
      let g : capped (capped x.positions + capped y.positions + p) ≡ capped (x.positions + y.positions + p) = omega arith in
      let h : capped (capped x.steps + capped y.steps + q) ≡ capped (x.steps + y.steps + q) = omega arith in
      rw (e, f, g, h)

  -- and so are products
  capped_times : (O x k e : ℕ) → capped (O * (capped x + k) + e) ≡ capped (O * (x + k) + e)
  capped_times zero x k e = omega arith
  capped_times (suc O) x k e = elim (dec_lt x (suc most_steps)) [
    | yes l ↦ (let f : capped x ≡ x = omega arith in rw f refl)
    | no l ↦ (let f : capped x ≡ suc most_steps = omega arith in rw f (omega arith))
  ]

  capped_copies : (O : ℕ) (x x₁ : Sizes) → x₁ ≡ capped_sizes x → capped_sizes (copies_size O x₁) ≡ capped_sizes (copies_size O x)
  capped_copies O x x₁ e =
      let f : capped (O * (capped x.steps + 2)) ≡ capped (O * (x.steps + 2)) = omega (arith, capped_times O x.steps 2 0) in
      rw (e, capped_times O x.positions 1 1, f)

  -- what a program gives by capped sizes are its sizes, capped
  pub fold_capped : (σ : Program) → fold (capped_algebra c) σ ≡ capped_sizes (sizes_of c σ)
  unfolding fold
  fold_capped = by_shape (λ σ. fold (capped_algebra c) σ ≡ capped_sizes (sizes_of c σ))
      (λ s. rw (fold_leaf (capped_algebra c) s, fold_leaf (size_algebra c) s)) refl
      (λ a b u v. capped_parts (sizes_of c a) (sizes_of c b) _ _ 0 0 u v)
      (λ g a b u v. rw (fold_branch (capped_algebra c) g a b, fold_branch (size_algebra c) g a b) (capped_parts (sizes_of c a) (sizes_of c b) _ _ 3 4 u v))
      (λ g a u. rw (fold_loop (capped_algebra c) g a, fold_loop (size_algebra c) g a) (capped_parts (sizes_of c a) nothing _ nothing 2 3 u refl))
      (λ a u. capped_copies c.objects (sizes_of c a) _ u)
