-- Every well-formed job has a text that is read as that job.
-- Assumes nothing.
use Prim.Native.Nat.{ℕ, suc, ◌+◌, ◌^◌, ◌≤◌, ◌<◌}
use mathlib.Core.Path.{◌≡◌, refl, sym, ◌∙◌, ap, subst}
use mathlib.Core.Bool.{true}
use mathlib.Core.List.{List, [], ◌∷◌, ◌++◌, map, flatten, append_assoc, append-nil}
use Rattle.std.specs.Prelude.{Some}
use native.Mathlib.Omega.{arith}
use native.Mathlib.Nat.{pow-le-pow_right}
use lib.Dec.{ltb}
use lib.Seq.{length-take-le}
use lib.ListN.{length, get_or, take, drop, length-append, length-drop, length-map, take-append-drop}
use borrow.Author.Tests.{lt-ltb, le-leb, ne_eqb}
use Rattle.limits.specs.Limits.{most_facts, most_formulas, most_moves, most_move_effects, most_program}
use Rattle.laws.proofs.Tests.{and_both}
use Rattle.laws.proofs.Each.{All, all_every, all_at, all_take, all_drop, all_any, all_both, all_map}
use Rattle.text.proofs.WrittenLaws.{Small}
use Rattle.text.specs.Lines.{lines}
use Rattle.text.proofs.LineText.{line_complete, plain, ends_once, line_of_lem, line_ends}
use Rattle.job.specs.Job as J
use Rattle.job.specs.Job.{counts_of, job_with}
use Rattle.job.specs.Line.{form_of, line_numbers}
use Rattle.job.specs.Fields.{bound, within, Within, formula_fields, move_fields, effect_fields, row_fields}
use Rattle.job.specs.Fault.{range_of, criteria, reason_of, fault}
use Rattle.job.specs.ReadJob.{Reading, on, read, ended, begun, read_from, read_job, taken, taken_at, taken_one, due_after, effects_after, job_after, after_row}
use Rattle.theorems.specs.JobText.{line_of, formula_line, move_line, effect_line, row_line, move_lines, program_lines, job_lines, job_text}
use Rattle.job.specs.WellFormed.{WellFormed, Tiled, beside, before_row}
use Rattle.job.specs.declared.head.Counts.{Counts}
use Rattle.job.specs.declared.fields.Field.{Field}
use Rattle.job.specs.declared.fields.Field.TheVariants as F
use Rattle.job.specs.declared.line.Heading.{Heading}
use Rattle.job.specs.declared.line.Heading.TheVariants.{Job, Facts, Init, Formulas, Moves, Goal, Objects, Program}
use Rattle.job.specs.declared.line.RowSort.{RowSort}
use Rattle.job.specs.declared.line.RowSort.TheVariants.{Formula, Move, Effect, Row}
use Rattle.job.specs.declared.line.Line.{Line}
use Rattle.job.specs.declared.line.Line.TheVariants.{One, Of, End}
use Rattle.job.proofs.RowLaws.{kind_listed, tiled_own}
use Rattle.reader.proofs.ReadLaws.{line_right}

-- the statement of fields passes their test, and their numbers are small
true_within : (c : Counts) (fs : List Field) (xs : List ℕ) → Within c fs xs → within c fs xs ≡ true
true_within c [] [] w = refl
true_within c [] (x ∷ xs) w = absurd w
true_within c (f ∷ fs) [] w = absurd w
true_within c (f ∷ fs) (x ∷ xs) w = and_both (ltb x (bound c f)) (within c fs xs) (lt-ltb x (bound c f) w.0) (true_within c fs xs w.1)

small_within : (c : Counts) → ((f : Field) → bound c f ≤ 65536) → (fs : List Field) (xs : List ℕ) → Within c fs xs → Small xs
small_within c b [] [] w = tt
small_within c b [] (x ∷ xs) w = absurd w
small_within c b (f ∷ fs) [] w = absurd w
small_within c b (f ∷ fs) (x ∷ xs) w = (omega (arith, w.0, b f), small_within c b fs xs w.1)

-- counts within the limits bound every field by a small number
bound_small : (c : Counts) → c.facts ≤ most_facts → c.formulas ≤ most_formulas → c.moves ≤ most_moves → c.program ≤ most_program → (f : Field)
    → bound c f ≤ 65536
bound_small c a b d e F.Unused = omega arith
bound_small c a b d e F.Fact = omega arith
bound_small c a b d e F.Formula = omega arith
bound_small c a b d e F.FormulaBase = omega arith
bound_small c a b d e F.Move = omega arith
bound_small c a b d e F.MoveBase = omega arith
bound_small c a b d e F.Row = omega arith
bound_small c a b d e F.Variable = omega arith
bound_small c a b d e F.Class = omega arith
bound_small c a b d e F.EffectCount = omega arith
bound_small c a b d e F.Value = omega arith

-- a row of a table of kinds: its fields pass, and its numbers are small
abbrev KindText : Counts → List (List Field) → ℕ → List ℕ → Type 0
KindText c table kind xs = (within c (get_or table kind []) xs ≡ true) × Small (kind ∷ xs)

kind_text : (c : Counts) (table : List (List Field)) → length table ≤ 65535 → ((f : Field) → bound c f ≤ 65536) → (kind x : ℕ) (xs : List ℕ)
    → Within c (get_or table kind []) (x ∷ xs) → KindText c table kind (x ∷ xs)
kind_text c table t b kind x xs w =
    (true_within c (get_or table kind []) (x ∷ xs) w, (omega (arith, kind_listed c table kind x xs w), small_within c b (get_or table kind []) (x ∷ xs) w))

-- a line of right numbers is taken in
text_line : (s : Reading) (n a : ℕ) (ns : List ℕ) (rest : List (List ℕ)) → length (a ∷ ns) ≡ (form_of s.next).width → Small (a ∷ ns)
    → reason_of s.next (counts_of s.job) (a ∷ ns) ≡ 0
    → read_from n s (line_of s.next (a ∷ ns) ∷ rest) ≡ read_from (n + 1) (taken_at s.next s (a ∷ ns)) rest
unfolding line_numbers taken fault
text_line s n a ns rest w t x =
    let k = s.next in
    let e : line_numbers k (line_of k (a ∷ ns)) ≡ Some (a ∷ ns) = line_complete (form_of k).key (form_of k).width a ns w t in
    line_right n s (line_of k (a ∷ ns)) rest (a ∷ ns) e (rw (e, x))

one_line : (h : Heading) (due : ℕ) (j : J.Job) (n a : ℕ) (rest : List (List ℕ)) → a ≤ 65535 → (range_of h (counts_of j)).from ≤ a
    → a < (range_of h (counts_of j)).below
    → read_from n (on (One h) due 0 j) (line_of (One h) (a ∷ []) ∷ rest) ≡ read_from (n + 1) (taken_one h (on (One h) due 0 j) a) rest
one_line h due j n a rest t x y = text_line (on (One h) due 0 j) n a [] rest refl (t, tt) (rw (le-leb _ _ x, lt-ltb _ _ y))

-- a row's line, after which so many rows and effects are due
row_line_lem : (k : RowSort) (next : Line) (due effects d e n : ℕ) (j : J.Job) (a : ℕ) (ns : List ℕ) (rest : List (List ℕ)) → next ≡ Of k
    → length (a ∷ ns) ≡ (form_of (Of k)).width → Small (a ∷ ns) → (criteria k (counts_of j) (a ∷ ns)).range ≡ true → (criteria k (counts_of j) (a ∷ ns)).fields ≡ true
    → due_after k due ≡ d → effects_after k effects (a ∷ ns) ≡ e
    → read_from n (on next due effects j) (line_of (Of k) (a ∷ ns) ∷ rest) ≡ read_from (n + 1) (on (after_row k d e) d e (job_after k j (a ∷ ns))) rest
row_line_lem k next due effects d e n j a ns rest g w t x y f h =
    ap (λ l. read_from n (on l due effects j) (line_of (Of k) (a ∷ ns) ∷ rest)) g
    ∙ text_line (on (Of k) due effects j) n a ns rest w t (rw (x, y))
    ∙ ap (λ (i : ℕ). read_from (n + 1) (on (after_row k i (effects_after k effects (a ∷ ns))) i (effects_after k effects (a ∷ ns)) (job_after k j (a ∷ ns))) rest) f
    ∙ ap (λ (i : ℕ). read_from (n + 1) (on (after_row k d i) d i (job_after k j (a ∷ ns))) rest) h

-- rows of one sort, one after the other: `mk l` is the job with the rows l, `st m` the reading with
-- m more of them due, and P i what the line of row i wants
module _ {A : Type 0} (d : A) (mk : List A → J.Job) (P : ℕ → A → Type 0) (st : ℕ → J.Job → Reading) (ln : A → List ℕ)
    (step : (m n : ℕ) (done : List A) (a : A) (rest : List (List ℕ)) → P (length done) a
    → read_from n (st (suc m) (mk done)) (ln a ∷ rest) ≡ read_from (n + 1) (st m (mk (done ++ (a ∷ [])))) rest) where
  rows_read : (l done : List A) (n : ℕ) (tail : List (List ℕ)) → ((i : ℕ) → i < length l → P (length done + i) (get_or l i d))
      → read_from n (st (length l) (mk done)) (map ln l ++ tail) ≡ read_from (n + length l) (st 0 (mk (done ++ l))) tail
  rows_read [] done n tail h = let e : n + 0 ≡ n = omega arith in rw (append-nil done, e)
  rows_read (a ∷ l) done n tail h =
      let z : length done + 0 ≡ length done = omega arith in
      let e : n + 1 + length l ≡ n + suc (length l) = omega arith in
      let more : (i : ℕ) → i < length l → P (length (done ++ (a ∷ [])) + i) (get_or l i d) = λ i g.
      let f : length done + suc i ≡ length (done ++ (a ∷ [])) + i = omega (arith, length-append done (a ∷ [])) in
      subst (λ k. P k (get_or l i d)) f (h (suc i) (omega arith)) in
      step (length l) n done a (map ln l ++ tail) (subst (λ i. P i a) z (h 0 (omega arith)))
      ∙ rows_read l (done ++ (a ∷ [])) (n + 1) tail more ∙ rw (append_assoc done (a ∷ []) l, e)

-- formulas and program rows
abbrev FormulaText : J.Job → J.Formula → Type 0
FormulaText j f = KindText (counts_of j) formula_fields f.kind (f.a ∷ f.b ∷ [])

formula_step : (m n : ℕ) (j : J.Job) (f : J.Formula) (rest : List (List ℕ)) → FormulaText j f
    → read_from n (on (after_row Formula (suc m) 0) (suc m) 0 j) (formula_line f ∷ rest) ≡ read_from (n + 1) (on (after_row Formula m 0) m 0 (J.add_formula j f)) rest
formula_step m n j f rest q =
    row_line_lem Formula _ (suc m) 0 m 0 n j f.kind (f.a ∷ f.b ∷ []) rest (rw (ne_eqb (suc m) 0 (λ z. omega arith))) refl q.1 refl q.0 (omega arith) refl

abbrev RowText : J.Job → J.Row → Type 0
RowText j r = KindText (counts_of j) row_fields r.kind (r.a ∷ r.b ∷ r.c ∷ [])

row_step : (m n : ℕ) (j : J.Job) (r : J.Row) (rest : List (List ℕ)) → RowText j r
    → read_from n (on (after_row Row (suc m) 0) (suc m) 0 j) (row_line r ∷ rest) ≡ read_from (n + 1) (on (after_row Row m 0) m 0 (J.add_row j r)) rest
row_step m n j r rest q =
    row_line_lem Row _ (suc m) 0 m 0 n j r.kind (r.a ∷ r.b ∷ r.c ∷ []) rest (rw (ne_eqb (suc m) 0 (λ z. omega arith))) refl q.1 refl q.0
    (omega arith) refl

-- a move's effects, and a move: their numbers are within their fields, which have small bounds
module _ (sc : J.Scalars) (fs : List J.Formula) (small : (f : Field) → bound (beside sc.facts (length fs)) f ≤ 65536) where
  abbrev beside_it : Counts
  beside_it = beside sc.facts (length fs)

  abbrev MoveText : J.Move → Type 0
  MoveText m = Within beside_it move_fields (J.move_numbers m)

  abbrev EffectText : J.Effect → Type 0
  EffectText e = Within beside_it effect_fields (J.effect_numbers e)

  effect_step : (due m n : ℕ) (ms : List J.Move) (es : List J.Effect) (e : J.Effect) (rest : List (List ℕ)) → EffectText e
      → read_from n (on (after_row Effect due (suc m)) due (suc m) (job_with sc fs ms es [])) (effect_line e ∷ rest)
      ≡ read_from (n + 1) (on (after_row Effect due m) due m (job_with sc fs ms (es ++ (e ∷ [])) [])) rest
  effect_step due m n ms es e rest w =
      row_line_lem Effect _ due (suc m) due m n (job_with sc fs ms es []) e.cond (drop 1 (J.effect_numbers e)) rest (rw (ne_eqb (suc m) 0 (λ z. omega arith))) refl
      (small_within beside_it small effect_fields (J.effect_numbers e) w) refl (true_within beside_it effect_fields (J.effect_numbers e) w) refl (omega arith)

  move_step : (due n : ℕ) (ms : List J.Move) (es : List J.Effect) (m : J.Move) (rest : List (List ℕ)) → MoveText m → m.first ≡ length es
      → read_from n (on (Of Move) (suc due) 0 (job_with sc fs ms es [])) (move_line m ∷ rest)
      ≡ read_from (n + 1) (on (after_row Effect due m.effects) due m.effects (job_with sc fs (ms ++ (m ∷ [])) es [])) rest
  move_step due n ms es m rest w e =
      row_line_lem Move _ (suc due) 0 due m.effects n (job_with sc fs ms es []) m.pre (drop 1 (J.move_numbers m)) rest refl refl
      (small_within beside_it small move_fields (J.move_numbers m) w) (le-leb m.effects most_move_effects (omega (arith, w.1.1.0)))
      (true_within beside_it move_fields (J.move_numbers m) w) (omega arith) refl
      ∙ ap (λ i. read_from (n + 1) (on (after_row Effect due m.effects) due m.effects
      (job_with sc fs (ms ++ (J.move_of i (J.move_numbers m) ∷ [])) es [])) rest) (sym e)

  -- the moves, each with its effects
  moves_read : (ms : List J.Move) (es : List J.Effect) (ms₀ : List J.Move) (es₀ : List J.Effect) (n : ℕ) (tail : List (List ℕ))
      → Tiled (length es₀) ms (length es₀ + length es) → All MoveText ms → All EffectText es
      → read_from n (on (after_row Effect (length ms) 0) (length ms) 0 (job_with sc fs ms₀ es₀ [])) (move_lines ms es ++ tail)
      ≡ read_from (n + length (move_lines ms es)) (on (One Goal) 0 0 (job_with sc fs (ms₀ ++ ms) (es₀ ++ es) [])) tail
  unfolding move_lines
  moves_read [] [] ms₀ es₀ n tail t f g = let e : n + 0 ≡ n = omega arith in rw (append-nil ms₀, append-nil es₀, e)
  moves_read [] (x ∷ es) ms₀ es₀ n tail t f g = absurd (omega (arith, t))
  moves_read (m ∷ ms) es ms₀ es₀ n tail t f g =
      let c : ℕ = m.effects in
      let own = tiled_own (J.move_of 0 []) (length es₀) (length es₀ + length es) (m ∷ ms) t 0 (omega arith) in
      let a : List J.Effect = take m.effects es in
      let b : List J.Effect = drop m.effects es in
      let la : length (take m.effects es) ≡ m.effects = length-take-le m.effects es (omega (arith, own, t.0)) in
      let mk : List J.Effect → J.Job = λ l. job_with sc fs (ms₀ ++ (m ∷ [])) l [] in
      let rest : List (List ℕ) = move_lines ms b ++ tail in
      let e₂ : length (es₀ ++ a) + length b ≡ length es₀ + length es =
      omega (arith, length-append es₀ a, la, length-drop m.effects es, own, t.0) in
      let e₁ : length (es₀ ++ a) ≡ length es₀ + m.effects = omega (arith, length-append es₀ a, la) in
      let e₃ : n + 1 + length a + length (move_lines ms b) ≡ n + suc (length (map effect_line a ++ move_lines ms b)) =
      omega (arith, length-append (map effect_line a) (move_lines ms b), length-map a effect_line) in
      rw (ne_eqb (suc (length ms)) 0 (λ z. omega arith), append_assoc (map effect_line a) (move_lines ms b) tail)
      (move_step (length ms) n ms₀ es₀ m (map effect_line a ++ rest) f.0 t.0
      ∙ ap (λ k. read_from (n + 1) (on (after_row Effect (length ms) k) (length ms) k (mk es₀)) (map effect_line a ++ rest)) (sym la)
      ∙ rows_read (J.effect_of []) mk (λ i x. EffectText x) (λ k j. on (after_row Effect (length ms) k) (length ms) k j) effect_line
      (λ k i. effect_step (length ms) k i (ms₀ ++ (m ∷ []))) a es₀ (n + 1) rest (all_at (J.effect_of []) EffectText a (all_take EffectText m.effects es g))
      ∙ moves_read ms b (ms₀ ++ (m ∷ [])) (es₀ ++ a) (n + 1 + length a) tail (rw (e₂, e₁) t.1) f.1 (all_drop EffectText m.effects es g)
      ∙ rw (append_assoc ms₀ (m ∷ []) ms, append_assoc es₀ a b, take-append-drop m.effects es, e₃))

read_end : (n : ℕ) (j : J.Job) → read_from n (on End 0 0 j) [] ≡ read n j
unfolding read_from ended
read_end n j = refl

-- the rows of a well-formed job as their texts want them
module _ (j : J.Job) (w : WellFormed j) where
  abbrev facts : ℕ
  facts = j.scalars.facts

  abbrev FormulaAt : ℕ → J.Formula → Type 0
  FormulaAt i f = KindText (beside facts i) formula_fields f.kind (f.a ∷ f.b ∷ [])

  formula_texts : (i : ℕ) → i < length j.formulas → FormulaAt (0 + i) (get_or j.formulas i (J.formula_of []))
  formula_texts i h =
      let e : i ≡ 0 + i = omega arith in
      subst (λ k. FormulaAt k (get_or j.formulas i (J.formula_of []))) e
      (kind_text (beside facts i) formula_fields (omega arith)
      (bound_small (beside facts i) w.facts (omega (arith, w.formulas)) (omega arith) (omega arith)) _ _ _ (w.formula i h))

  abbrev RowAt : ℕ → J.Row → Type 0
  RowAt i r = KindText (before_row j i) row_fields r.kind (r.a ∷ r.b ∷ r.c ∷ [])

  row_texts : (i : ℕ) → i < length j.program → RowAt (0 + i) (get_or j.program i (J.row_of []))
  row_texts i h =
      let e : i ≡ 0 + i = omega arith in
      subst (λ k. RowAt k (get_or j.program i (J.row_of []))) e
      (kind_text (before_row j i) row_fields (omega arith) (bound_small (before_row j i) w.facts w.formulas w.moves (omega (arith, w.program))) _ _ _ (w.row i h))

  init_small : j.scalars.init ≤ 65535
  init_small = let p : 2 ^ facts ≤ 2 ^ most_facts = pow-le-pow_right (omega arith) w.facts in omega (arith, w.init)

  -- the scalars before the goal is read
  abbrev sc : J.Scalars
  sc = J.scalars facts j.scalars.init 0 0

  head_read : (n : ℕ) (tail : List (List ℕ))
      → read_from n begun
      (line_of (One Job) (1 ∷ []) ∷ line_of (One Facts) (facts ∷ []) ∷ line_of (One Init) (j.scalars.init ∷ []) ∷ line_of (One Formulas)
      (length j.formulas ∷ []) ∷ tail)
      ≡ read_from (n + 1 + 1 + 1 + 1) (on (after_row Formula (length j.formulas) 0) (length j.formulas) 0 (job_with sc [] [] [] [])) tail
  head_read n tail =
      one_line Job 0 begun.job n 1 _ (omega arith) (omega arith) (omega arith)
      ∙ one_line Facts 1 begun.job (n + 1) facts _ (omega (arith, w.facts)) (omega arith) (omega (arith, w.facts))
      ∙ one_line Init facts (job_with (J.scalars facts 0 0 0) [] [] [] []) (n + 1 + 1) j.scalars.init _ init_small (omega arith)
      w.init
      ∙ one_line Formulas j.scalars.init (job_with sc [] [] [] []) (n + 1 + 1 + 1) (length j.formulas) tail
      (omega (arith, w.formulas)) (omega (arith, w.goal)) (omega (arith, w.formulas))

  program_read : (n : ℕ) → read_from n (on (One Goal) 0 0 (job_with sc j.formulas j.moves j.effects [])) (program_lines j) ≡ read
      (n + 1 + 1 + 1 + length j.program) j
  program_read n =
      let objects : ℕ = j.scalars.objects in
      let mk : List J.Row → J.Job = λ l. job_with j.scalars j.formulas j.moves j.effects l in
      let st : ℕ → J.Job → Reading = λ k q. on (after_row Row k 0) k 0 q in
      one_line Goal 0 (job_with sc j.formulas j.moves j.effects []) n j.scalars.goal
      (line_of (One Objects) (objects ∷ []) ∷ line_of (One Program) (length j.program ∷ []) ∷ map row_line j.program)
      (omega (arith, w.goal, w.formulas)) (omega arith) w.goal
      ∙ one_line Objects j.scalars.goal (job_with (J.scalars facts j.scalars.init j.scalars.goal 0) j.formulas j.moves j.effects [])
      (n + 1) objects (line_of (One Program) (length j.program ∷ []) ∷ map row_line j.program)
      (omega (arith, w.objects)) (omega arith) (omega (arith, w.objects))
      ∙ one_line Program objects (mk []) (n + 1 + 1) (length j.program) (map row_line j.program) (omega (arith, w.program)) w.last
      (omega (arith, w.program))
      ∙ ap (read_from (n + 1 + 1 + 1) (st (length j.program) (mk []))) (sym (append-nil (map row_line j.program)))
      ∙ rows_read (J.row_of []) mk RowAt st row_line (λ k i done. row_step k i (mk done)) j.program [] (n + 1 + 1 + 1) [] row_texts
      ∙ read_end (n + 1 + 1 + 1 + length j.program) j

  lines_read : read_from 0 begun (job_lines j) ≡ read (length (job_lines j)) j
  lines_read =
      let fs : List J.Formula = j.formulas in
      let ms : List J.Move = j.moves in
      let es : List J.Effect = j.effects in
      let after : List (List ℕ) = line_of (One Moves) (length ms ∷ []) ∷ (move_lines ms es ++ program_lines j) in
      let n : ℕ = 4 + length fs in
      let mk : List J.Formula → J.Job = λ l. job_with sc l [] [] [] in
      let z : 0 + length es ≡ length es = omega arith in
      let small = bound_small (beside facts (length fs)) w.facts w.formulas (omega arith) (omega arith) in
      let e : 4 + length fs + 1 + length (move_lines ms es) + 1 + 1 + 1 + length j.program ≡ length (job_lines j) =
      omega (
        arith,
        length-append (map formula_line fs) after,
        length-map fs formula_line,
        length-append (move_lines ms es) (program_lines j),
        length-map
            j.program row_line,
      ) in
      head_read 0 (map formula_line fs ++ after)
      ∙ rows_read (J.formula_of []) mk FormulaAt (λ k q. on (after_row Formula k 0) k 0 q) formula_line (λ k i done. formula_step k i (mk done))
      fs [] 4 after formula_texts
      ∙ one_line Moves 0 (job_with sc fs [] [] []) n (length ms) (move_lines ms es ++ program_lines j) (omega (arith, w.moves)) (omega arith)
      (omega (arith, w.moves))
      ∙ moves_read sc fs small ms es [] [] (n + 1) (program_lines j) (rw z w.tiled)
      (all_every (J.move_of 0 []) (MoveText sc fs small) ms w.move) (all_every (J.effect_of []) (EffectText sc fs small) es w.effect)
      ∙ program_read (n + 1 + length (move_lines ms es))
      ∙ ap (λ k. read k j) e

-- every line of a job's text ends in its only line feed
key_plain : (k : Line) → plain (form_of k).key ≡ true
key_plain (One Job) = refl
key_plain (One Facts) = refl
key_plain (One Init) = refl
key_plain (One Formulas) = refl
key_plain (One Moves) = refl
key_plain (One Goal) = refl
key_plain (One Objects) = refl
key_plain (One Program) = refl
key_plain (Of Formula) = refl
key_plain (Of Move) = refl
key_plain (Of Effect) = refl
key_plain (Of Row) = refl
key_plain End = refl

abbrev pub Once : List ℕ → Type 0
Once l = ends_once l ≡ true

once : (k : Line) (n : ℕ) (ns : List ℕ) → Once (line_of k (n ∷ ns))
once k n ns = line_ends (form_of k).key n ns (key_plain k)

once_map : {A : Type 0} (f : A → List ℕ) (l : List A) → ((a : A) → Once (f a)) → All Once (map f l)
once_map f l h = all_map f Once l (all_any (λ a. Once (f a)) h l)

move_once : (ms : List J.Move) (es : List J.Effect) → All Once (move_lines ms es)
unfolding move_lines
move_once [] es = tt
move_once (m ∷ ms) es = (
  once (Of Move) _ _,
  all_both Once (map effect_line (take m.effects es)) (move_lines ms (drop m.effects es))
      (once_map effect_line (take m.effects es) (λ e. once (Of Effect) _ _)) (move_once ms (drop m.effects es)),
)

job_once : (j : J.Job) → All Once (job_lines j)
job_once j =
    let end : All Once (program_lines j) =
    (once (One Goal) _ _, (once (One Objects) _ _, (once (One Program) _ _, once_map row_line j.program (λ r. once (Of Row) _ _)))) in (
      once (One Job) _ _,
      (
        once (One Facts) _ _,
        (
          once (One Init) _ _,
          (
            once (One Formulas) _ _,
            all_both Once (map formula_line j.formulas)
                (line_of (One Moves) (length j.moves ∷ []) ∷ (move_lines j.moves j.effects ++ program_lines j))
                (once_map formula_line j.formulas (λ f. once (Of Formula) _ _))
                (once (One Moves) _ _, all_both Once (move_lines j.moves j.effects) (program_lines j) (move_once j.moves j.effects) end),
          ),
        ),
      ),
    )

pub lines_flatten : (ls : List (List ℕ)) → All Once ls → lines (flatten ls) ≡ ls
unfolding lines flatten
lines_flatten [] h = refl
lines_flatten (l ∷ ls) h = line_of_lem l (flatten ls) h.0 ∙ ap (λ r. l ∷ r) (lines_flatten ls h.1)

-- every well-formed job has a text that is read as that job
pub text_read : (j : J.Job) → WellFormed j → read_job (job_text j) ≡ read (length (job_lines j)) j
unfolding read_job
text_read j w = ap (read_from 0 begun) (lines_flatten (job_lines j) (job_once j)) ∙ lines_read j w
