-- The limit of one reply. Assumes nothing.
use Rattle.std.specs.Prelude.{ℕ, min, max}

-- a limit outside 512 to 262,144 becomes the nearer end
abbrev pub clamped : ℕ → ℕ
clamped n = max 512 (min 262144 n)
