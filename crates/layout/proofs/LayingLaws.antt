-- Lines laid over an output, one behind another, as the code writes them.
-- Assumes nothing.
use Rattle.std.proofs.Common.{◌≡◌, ℕ, suc, ◌+◌, ◌-◌, ◌*◌, ◌≤◌, ◌<◌, None, Some, List, [], ◌∷◌, ◌++◌, length, get_or, drop, replicate, map, refl, sym, ap, subst, ◌∙◌, arith, add-one, drop-cons}
use mathlib.Core.List.{flatten}
use Rattle.std.proofs.Math.ListN.{drop_of_length-le}
use Rattle.std.proofs.Math.Seq.{length-sets}
use Rattle.std.proofs.lemmas.List.{length-map}
use Rattle.std.proofs.lemmas.List.Edits.{sets}
use Rattle.laws.proofs.Lists.{sets_on}
use Rattle.laws.proofs.Each.{flatten_append}
use Rattle.limits.specs.Limits.{most_cost}
use Rattle.job.specs.declared.task.Task.{Task}
use Rattle.semantics.specs.Domain.{Domain}
use Rattle.semantics.proofs.Bounds.{Bounded}
use Rattle.domain.specs.Domain.{domain_at}
use Rattle.domain.specs.Entries.{EntriesBelow}
use Rattle.domain.proofs.DomainLaws.{stored_bounded}
use Rattle.layout.specs.Sheet.{line_size, line_bytes, FitsColumns, line_at, plan_lines_from, plan_lines, page_lines, blank_line, paged_lines, sheet_of}
use Rattle.layout.specs.declared.line.SheetLine.{SheetLine}
use Rattle.layout.proofs.LineLaws.{WholeLine, line_length_lem, blank_length}
use Rattle.layout.proofs.PlanLines.{lines_after, line_fits, lines_length}

-- what is to be written from line i on is what was to be written from the first line on
pub record Laying (first : ℕ) (all rest : List (List ℕ)) (old out : List ℕ) (i : ℕ) : Type 0 where
  pub size : length out ≡ length old
  pub laid : sets out (i * line_size) (flatten rest) ≡ sets old (first * line_size) (flatten all)
  pub count : i + length rest ≡ first + length all

pub laying_start : (first : ℕ) (all : List (List ℕ)) (old : List ℕ) → Laying first all all old old first
laying_start first all old = record { size = refl; laid = refl; count = refl }

-- one line
laying_more : (first i : ℕ) (all : List (List ℕ)) (old out l v : List ℕ) (rest : List (List ℕ)) → Laying first all (l ∷ rest) old out i
    → WholeLine l → i * line_size + line_size ≤ length old → v ≡ sets out (i * line_size) l → Laying first all rest old v (i + 1)
unfolding flatten
laying_more first i all old out l v rest x w h e =
    let at : (i + 1) * line_size ≡ i * line_size + length l = omega (arith, w) in
    rw e (record {
      size = length-sets out (i * line_size) l ∙ x.size;
      laid = sets_on out l (flatten rest) (i * line_size) ((i + 1) * line_size) refl at refl ∙ x.laid;
      count = omega (arith, x.count);
    })

laying_end : {first i : ℕ} {all : List (List ℕ)} {old out : List ℕ} → Laying first all [] old out i
    → (out ≡ sets old (first * line_size) (flatten all)) × (i ≡ first + length all)
unfolding flatten
laying_end x = (x.laid, omega (arith, x.count))

-- lines of spaces, up to the page's end
module _ (first end : ℕ) where
  abbrev blanks : ℕ → List (List ℕ)
  blanks k = replicate k blank_line

  module _ {old out : List ℕ} {i : ℕ} (x : Laying first (replicate (end - first) blank_line) (replicate (end - i) blank_line) old out i) where
    pub filling_more : i < end → end * line_size ≤ length old → {v : List ℕ} → v ≡ sets out (i * line_size) blank_line
        → Laying first (replicate (end - first) blank_line) (replicate (end - (i + 1)) blank_line) old v (i + 1)
    filling_more h room {v} e =
        let one : end - i ≡ suc (end - (i + 1)) = omega arith in
        laying_more first i _ old out blank_line v (blanks (end - (i + 1)))
        (subst (λ (k : ℕ). Laying first (blanks (end - first)) (blanks k) old out i) one x) blank_length (omega arith) e

    pub filling_end : end ≤ i → out ≡ sets old (first * line_size) (flatten (replicate (end - first) blank_line))
    filling_end h =
        let none_left : end - i ≡ 0 = omega arith in
        (laying_end (subst (λ (k : ℕ). Laying first (blanks (end - first)) (blanks k) old out i) none_left x)).0

-- the lines of a stored task's moves, as the code writes them
module _ (t : Task) (plan : List ℕ) where
  abbrev E : Domain
  E = domain_at t

  abbrev b : Bounded (domain_at t) most_cost
  b = stored_bounded t.stored

  -- i lines are written, whose costs sum to `total`, and the moves have led to this state
  pub record Lining (old out : List ℕ) (state total i : ℕ) : Type 0 where
    pub laying : Laying 0 (map line_bytes (plan_lines (domain_at t) plan))
        (map line_bytes (plan_lines_from (domain_at t) state i total (drop i plan))) old out i
    pub state_below : state < (domain_at t).states
    pub total_within : total ≤ i * most_cost

  module _ (entries : EntriesBelow plan E.moves) {old out : List ℕ} {state total i : ℕ} (x : Lining old out state total i) (h : i < length plan) where
    abbrev m : ℕ
    m = get_or plan i 0

    -- the line of move i
    module _ {spent : ℕ} (c : spent ≡ E.cost m state) where
      abbrev line : SheetLine
      line = record { row = i + 1; action = m; cost = spent; total = total + spent }

      is_line : line_at E state i total m ≡ line
      is_line = rw (c, add-one i) refl

      pub lining_fits : FitsColumns (record { row = i + 1; action = get_or plan i 0; cost = spent; total = total + spent })
      lining_fits = subst FitsColumns is_line
          (line_fits E b t.stored.job.moves state i total m (omega (arith, entries.few)) (entries.below i h) x.total_within)

      -- what is left then
      abbrev left : List SheetLine
      left = lines_after E (suc i) (total + E.cost m state) (drop (suc i) plan) (E.successor m state)

      unfolded : plan_lines_from E state i total (drop i plan) ≡ line ∷ left
      unfolding plan_lines_from
      unfolded = ap (plan_lines_from E state i total) (drop-cons plan i 0 h) ∙ ap (λ (l : SheetLine). l ∷ left) is_line

      module _ (room : length plan * line_size ≤ length old) {v : List ℕ} (e : v ≡ sets out (i * line_size) (line_bytes line)) where
        put : Laying 0 (map line_bytes (plan_lines E plan)) (map line_bytes left) old v (i + 1)
        put =
            let here = subst (λ (ls : List SheetLine). Laying 0 (map line_bytes (plan_lines E plan)) (map line_bytes ls) old out i) unfolded x.laying in
            laying_more 0 i _ old out (line_bytes line) v (map line_bytes left) here (line_length_lem line lining_fits) (omega arith) e

        -- the move is not applicable, and its line the last
        pub lining_stop : E.successor m state ≡ None
            → (v ≡ sets old 0 (flatten (map line_bytes (plan_lines E plan))))
            × (i + 1 ≡ length (plan_lines E plan))
        lining_stop none_left =
            let z = laying_end (rw none_left at put) in
            (z.0, omega (arith, z.1, length-map (plan_lines E plan) line_bytes))

        pub lining_more : (next : ℕ) → E.successor m state ≡ Some next
            → Lining old v next (total + spent) (i + 1)
        lining_more next goes = record {
          laying = rw (c, add-one i) (rw (goes, add-one i) at put);
          state_below = b.successors m state next x.state_below goes;
          total_within = omega (arith, x.total_within, b.costs m state, c);
        }

  pub lining_end : {old out : List ℕ} {state total : ℕ} (i : ℕ) → Lining old out state total i → length plan ≤ i
      → (out ≡ sets old 0 (flatten (map line_bytes (plan_lines E plan)))) × (i ≡ length (plan_lines E plan))
  unfolding plan_lines_from
  lining_end i x h =
      let past : drop i plan ≡ [] = drop_of_length-le plan h in
      let z = laying_end (rw past at x.laying) in
      (z.0, omega (arith, z.1, length-map (plan_lines E plan) line_bytes))

  -- and lines of spaces behind them, to the end of the last page
  pub sheet_laid : EntriesBelow plan E.moves → (old : List ℕ) {mid new : List ℕ} {count : ℕ} → mid ≡ sets old 0 (flatten (map line_bytes (plan_lines E plan)))
      → count ≡ length (plan_lines E plan) → new ≡ sets mid (count * line_size) (flatten (replicate (page_lines count - count) blank_line))
      → new ≡ sets old 0 (sheet_of E plan)
  unfolding sheet_of paged_lines
  sheet_laid entries old {count = count} e n f =
      let ls : List (List ℕ) = map line_bytes (plan_lines E plan) in
      let k : length (map line_bytes (plan_lines E plan)) ≡ count = length-map (plan_lines E plan) line_bytes ∙ sym n in
      sets_on old (flatten ls) (flatten (replicate (page_lines count - count) blank_line)) 0 (count * line_size) e
      (omega (arith, lines_length E b t.stored.job.moves plan entries, n)) f
      ∙ ap (sets old 0) (sym (flatten_append ls (replicate (page_lines count - count) blank_line))
      ∙ ap (λ (j : ℕ). flatten (ls ++ replicate (page_lines j - j) blank_line)) (sym k))
