-- Quoted text as bytes, for keys and examples.
use Rattle.std.specs.Prelude.{ℕ, List, [], ◌∷◌}
use Prim.Native.Char.{code}
use Prim.Native.String.{String, [] as end-of-text, ◌∷◌ as ◌then◌}

-- a key
abbrev pub codes : String → List ℕ
codes end-of-text = []
codes (◌then◌ c s) = code c ∷ codes s

-- a text, which may be long: shut
unfoldable pub bytes : String → List ℕ
bytes s = codes s
