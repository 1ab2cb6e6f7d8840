-- The first state that has a key.
-- Assumes nothing.
use Rattle.std.proofs.Common.{ℕ, ◌≤◌, ◌≡◌, Bool, true, false, cond, List, length, get_or, ltb, position, Option, Some, None, arith, sym, refl}
use Rattle.std.proofs.lemmas.Bool.{ltb-true, ltb-false}
use Rattle.std.proofs.lemmas.List.Quantifiers.{position-Some}
use Rattle.std.proofs.lemmas.List.Sums.{fails_before_first}
use Rattle.std.specs.List.{position_or_len}
use Rattle.queue.specs.Queue.{no_key, Chosen, due, rest}

-- a search that finds none has come to the end
searched : (i n : ℕ) (b : Bool) → ltb i n ≡ b → None ≡ cond b (Some i) None → n ≤ i
searched i n true e f = absurd (cc)
searched i n false e f = ltb-false i n e

pub chosen_first : (queue : List ℕ) (o : Option ℕ) → o ≡ position (λ k. ltb k no_key) queue → Chosen queue o
chosen_first queue (Some s) e =
    let x = position-Some (λ k. ltb k no_key) queue s 0 (sym e) in due x.0 (ltb-true (get_or queue s 0) no_key x.1)
chosen_first queue None e = rest (λ k h. (
    let end = searched (position_or_len (λ k. ltb k no_key) queue) (length queue) _ refl e in
    ltb-false (get_or queue k 0) no_key (fails_before_first (λ k. ltb k no_key) queue k 0 (omega arith))
    ))
