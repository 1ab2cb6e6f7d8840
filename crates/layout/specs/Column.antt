-- Numbers in columns: "numbers set right".
use Rattle.std.specs.Prelude.{ℕ, ◌-◌, List, ◌++◌, length, replicate}
use Rattle.text.specs.Written.{decimal}

-- so many spaces (byte 32)
abbrev pub spaces : ℕ → List ℕ
spaces n = replicate n 32

-- a number set right in so many bytes
unfoldable pub column : ℕ → ℕ → List ℕ
column width n = spaces (width - length (decimal n)) ++ decimal n
