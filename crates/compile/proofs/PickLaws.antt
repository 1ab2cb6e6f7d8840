-- The steps of a pick: a copy of the body for each object, then those to and from the copies.
-- Assumes nothing.
use Prim.Native.Nat.{ℕ, suc, ◌+◌, ◌-◌, ◌*◌, ◌/◌, ◌≤◌, ◌<◌}
use mathlib.Core.Path.{◌≡◌, refl, sym, ◌∙◌, ap, ap₂, subst, fun_ext}
use mathlib.Core.Bool.{true}
use mathlib.Core.List.{List, ◌∷◌}
use native.Mathlib.Omega.{arith}
use native.Mathlib.Nat.{mul_comm, mul-le-mul_left, mul-le-mul_right, mul-div_cancel}
use native.Mathlib.Numerals.{add-one}
use lib.ListN.{length}
use Rattle.limits.specs.Limits.{most_positions}
use Rattle.job.specs.declared.head.Counts.{Counts}
use Rattle.semantics.specs.Program.{Program, pick}
use Rattle.semantics.specs.CompilingTable.{Step, copy_start, end, copies, steps, flat, pick_steps}
use Rattle.semantics.specs.Scope.{scoped}
use Rattle.semantics.proofs.FlatLaws.{flat_append, flat_length}
use Rattle.compile.specs.Construct.{fold}
use Rattle.compile.specs.Size.{sizes_of}
use Rattle.compile.specs.Laid.{next, LaidOver, StepsLaid, Enough}
use Rattle.compile.specs.declared.writing.Cursor.{Cursor}
use Rattle.compile.proofs.SizeLaws.{copy_of, start_at, body_count, has_sizes}
use Rattle.compile.proofs.LaidLaws.{laid_append, laid_none, CopiesOver, copies_none, copies_more}
use Rattle.compile.proofs.StepsLaidLaws.{wrote_end}

-- how far apart the copies of a body start, where a pick is compiled from n, and where they do
abbrev apart : Counts → Program → ℕ
apart c σ = (sizes_of c σ).positions + 1

abbrev start_of : Counts → Program → ℕ → ℕ → ℕ
start_of c σ n = copy_start (end c.objects σ) n

module _ (c : Counts) (σ : Program) (n : ℕ) where
  starts_at : (k : ℕ) → start_of c σ n k ≡ n + 1 + apart c σ * k
  starts_at k = start_at (end c.objects σ) (sizes_of c σ).positions (has_sizes c σ).ends n k

  ends_at : (k : ℕ) → end c.objects σ (start_of c σ n k) ≡ n + apart c σ + apart c σ * k
  ends_at k = (has_sizes c σ).ends (start_of c σ n k) ∙ omega (arith, starts_at k)

  same_steps : pick_steps c.objects n (start_of c σ n) (λ k. end c.objects σ (start_of c σ n k))
      ≡ pick_steps c.objects n (λ k. n + 1 + apart c σ * k) (λ k. n + apart c σ + apart c σ * k)
  same_steps = ap₂ (pick_steps c.objects n) (fun_ext starts_at) (fun_ext ends_at)

-- the steps of the first o copies of a pick's body, and the cursor after them
pub record CopiesLaid (c : Counts) (env : List ℕ) (σ : Program) (old : List ℕ) (from : Cursor) (o : ℕ) (new : List ℕ) (to : Cursor) : Type 0 where
  pub over : CopiesOver (copy_of c env σ from.position) c.objects old from.at o new to.at
  pub ends : to.position ≡ copy_start (end c.objects σ) from.position o

module _ {c : Counts} {env : List ℕ} {σ : Program} {from : Cursor} {old : List ℕ} where
  -- without objects there are no steps
  pub wrote_none : c.objects ≡ 0 → StepsLaid c env (pick σ) old from old (next from)
  unfolding steps end copy_start copies pick_steps flat
  wrote_none e = record { laid = rw e (laid_none old from.at); ends = rw e (add-one from.position) }

  -- no copy yet, and one more
  pub copied_none : CopiesLaid c env σ old from 0 old (next from)
  unfolding copy_start
  copied_none = record { over = copies_none; ends = add-one from.position }

  module _ {o : ℕ} {list : List ℕ} {last : Cursor} (k : CopiesLaid c env σ old from o list last) where
    pub copied_more : {env₂ new : List ℕ} {x : Cursor} → o < c.objects → env₂ ≡ o ∷ env → StepsLaid c env₂ σ list last new x
        → length new ≡ length list → CopiesLaid c env σ old from (o + 1) new (next x)
    unfolding copy_start
    copied_more {x = x} h e w z = record {
      over = copies_more k.over h
          (ap₂ (λ (y : List ℕ) (p : ℕ). flat (steps c.moves c.objects y σ p)) (sym e) (sym k.ends)) z w.laid;
      ends = add-one x.position ∙ ap suc (w.ends ∙ ap (end c.objects σ) k.ends) ∙ rw (add-one o) refl;
    }

    pub all_copied : c.objects ≤ o → CopiesLaid c env σ old from c.objects list last
    all_copied h =
        let e : o ≡ c.objects = omega (arith, h, k.over.few) in
        subst (λ (x : ℕ). CopiesLaid c env σ old from x list last) e k

module _ {c : Counts} {env : List ℕ} {σ : Program} {from : Cursor} {places : ℕ} (r : Enough c env (pick σ) from places) where
  abbrev n : ℕ
  n = from.position

  abbrev O : ℕ
  O = c.objects

  body_variables : scoped (suc (length env)) σ ≡ true
  unfolding scoped
  body_variables = r.variables

  whole : (n + (O * apart c σ + 1) < most_positions) × (from.at + O * ((sizes_of c σ).steps + 2) * 4 ≤ places)
  unfolding fold
  whole = (r.positions, r.room)

  -- so many places are taken by k copies
  taken : (k : ℕ) → length (flat (copies k (copy_of c env σ n))) ≡ k * (sizes_of c σ).steps * 4
  taken k = omega (arith, flat_length (copies k (copy_of c env σ n)), body_count c (has_sizes c σ) env n k r.variables)

  module _ {old list : List ℕ} {last : Cursor} {o : ℕ} (same : length old ≡ places) (k : CopiesLaid c env σ old from o list last) where
    -- there is room for one copy more
    pub copy_room : {env₂ : List ℕ} → o < O → env₂ ≡ o ∷ env → Enough c env₂ σ last (length list)
    copy_room h e = record {
      variables = rw e body_variables;
      positions = omega (arith, whole.0, k.ends, starts_at c σ n o, mul-le-mul_left (apart c σ) h, mul_comm O (apart c σ));
      room = omega (arith, same, k.over.size, whole.1, k.over.laid.place, taken o, mul-le-mul_right (sizes_of c σ).steps h);
    }

    pub copy_next : {env₂ mid : List ℕ} {x : Cursor} → o < O → env₂ ≡ o ∷ env → StepsLaid c env₂ σ list last mid x → x.position < 65535
    copy_next h e w = omega (arith, (copy_room h e).positions, (wrote_end (copy_room h e).variables w).0)

  -- after all copies
  module _ {old list : List ℕ} {last : Cursor} (same : length old ≡ places) (some : 0 < O) (k : CopiesLaid c env σ old from O list last) where
    apart_is : (last.position - (n + 1)) / O ≡ apart c σ
    apart_is =
        let e : last.position - (n + 1) ≡ apart c σ * O = omega (arith, k.ends, starts_at c σ n O) in
        ap (λ (x : ℕ). x / O) e ∙ mul-div_cancel (apart c σ) some

    pub after_first : n + 1 ≤ last.position
    after_first = omega (arith, k.ends, starts_at c σ n O)

    pub pick_ok : (a : ℕ) → a ≡ (last.position - (n + 1)) / O → (last.at + O * 8 ≤ length list) × (n + a + a * O < 65535)
    pick_ok a e = rw (e, apart_is) (
      omega (arith, same, k.over.size, whole.1, k.over.laid.place, taken O),
      omega (arith, whole.0, mul_comm O (apart c σ), mul-le-mul_left (apart c σ) some),
    )

    pub wrote_copies : {a : ℕ} {new : List ℕ} {to : Cursor} → a ≡ (last.position - (n + 1)) / O
        → LaidOver (flat (pick_steps O n (λ k. n + 1 + a * k) (λ k. n + a + a * k))) list last.at new to.at × (to.position ≡ n + 1 + a * O)
        → StepsLaid c env (pick σ) old from new to
    unfolding steps end
    wrote_copies {a} {new} {to} d z =
        let e : a ≡ apart c σ = d ∙ apart_is in
        let own : LaidOver (flat (pick_steps O n (start_of c σ n) (λ k. end O σ (start_of c σ n k)))) list last.at new to.at =
        subst (λ (L : List Step). LaidOver (flat L) list last.at new to.at) (sym (same_steps c σ n)) (rw e at z.0) in
        record {
          laid = rw (flat_append (copies O (copy_of c env σ n)) (pick_steps O n (start_of c σ n) (λ k. end O σ (start_of c σ n k))))
              (laid_append k.over.laid own);
          ends = z.1 ∙ ap (λ (x : ℕ). n + 1 + x * O) e ∙ sym (starts_at c σ n O);
        }
