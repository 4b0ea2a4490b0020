-- FNV-1a.
use Rattle.std.specs.Prelude.{ℕ, ◌*◌, ◌%◌, ◌^◌, bit_xor}

-- one byte more
abbrev pub with_byte : ℕ → ℕ → ℕ
with_byte sum byte = (bit_xor sum byte * 1099511628211) % 2 ^ 64
