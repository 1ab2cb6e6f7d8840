-- A reader of lines answers a text as it does the text's front, where right texts are short.
-- Assumes nothing.
use Prim.Native.Nat.{ℕ, zero, suc, ◌+◌, ◌-◌, ◌≤◌, ◌<◌}
use mathlib.Core.Path.{◌≡◌, sym, ◌∙◌, ap}
use mathlib.Core.List.{List, ◌∷◌}
use native.Mathlib.Omega.{arith}
use native.Mathlib.Decide.{dec_lt}
use lib.ListN.{length, take, drop, length-drop}
use lib.Seq.{length-take-le, take-take}
use Rattle.laws.proofs.Lists.{drop_take}
use Rattle.text.specs.Lines.{lines, line_length}
use Rattle.text.proofs.LineLaws.{lines_first, length_le, length_pos, front_length}

-- `ahead s` bytes may still come in the state s, at the most. All longer lines are answered alike,
-- whatever follows them (long). What follows one line is answered alike after it where it is in
-- each state after it, in which fewer bytes may come, by the line's length (same).
module _ {S O : Type 0} (read : S → List (List ℕ) → O) (ahead : S → ℕ)
    (long : (s : S) (line other : List ℕ) (rest more : List (List ℕ))
    → ahead s < length line → ahead s < length other → read s (line ∷ rest) ≡ read s (other ∷ more))
    (same : (s : S) (line : List ℕ) (rest more : List (List ℕ))
    → ((q : S) → ahead q + length line ≤ ahead s → read q rest ≡ read q more) → read s (line ∷ rest) ≡ read s (line ∷ more)) where
  -- a text, and its front of m bytes
  module _ (m : ℕ) (s : S) (text : List ℕ) (enough : ahead s < m) (within : m ≤ length text) where
    abbrev l : ℕ
    l = line_length text

    abbrev k : ℕ
    k = line_length (take m text)

    all : lines text ≡ take l text ∷ lines (drop l text)
    all = lines_first text (omega arith)

    front : lines (take m text) ≡ take k (take m text) ∷ lines (drop k (take m text))
    front = lines_first (take m text) (omega (arith, length-take-le m text within))

    -- the first line goes on past the front: it and what the front has of it are too long
    cut_within : m < l → read s (lines text) ≡ read s (lines (take m text))
    cut_within h =
        let e : k ≡ m = front_length m text within ∙ omega arith in
        ap (read s) all
        ∙ long s (take l text) (take k (take m text)) (lines (drop l text)) (lines (drop k (take m text)))
        (omega (arith, length-take-le l text (length_le text))) (omega (arith, length-take-le k (take m text) (length_le (take m text))))
        ∙ sym (ap (read s) front)

    -- the first line ends in the front
    cut_after : l ≤ m → ((q : S) → ahead q + l ≤ ahead s → read q (lines (drop l text)) ≡ read q (lines (take (m - l) (drop l text))))
        → read s (lines text) ≡ read s (lines (take m text))
    cut_after h again =
        let e : k ≡ l = front_length m text within ∙ omega arith in
        let f : lines (take m text) ≡ take l text ∷ lines (take (m - l) (drop l text)) = front ∙ rw (e, take-take l m text h, drop_take l m text h) in
        ap (read s) all
        ∙ same s (take l text) _ _ (λ q a. again q (omega (arith, length-take-le l text (length_le text))))
        ∙ sym (ap (read s) f)

  -- by so many bytes at the most, since no line is empty
  decides_within : (fuel m : ℕ) (s : S) (text : List ℕ) → m ≤ fuel → ahead s < m → m ≤ length text → read s (lines text) ≡ read s (lines (take m text))
  decides_within zero m s text f h g = absurd (omega arith)
  decides_within (suc fuel) m s text f h g = elim (dec_lt m (line_length text)) [
    | yes p ↦ cut_within m s text h g p
    | no p ↦ cut_after m s text h g (omega arith) (λ q a. decides_within fuel (m - line_length text) q (drop (line_length text) text)
        (omega (arith, length_pos text (omega arith))) (omega arith) (simp length-drop (omega arith)))
  ]

  -- the front decides, where it has more bytes than may still come
  pub front_decides : (m : ℕ) (s : S) (text : List ℕ) → ahead s < m → m ≤ length text → read s (lines text) ≡ read s (lines (take m text))
  front_decides m s text h g = decides_within m m s text (omega arith) h g
