-- Chains of steps that may be refused.
use Rattle.std.specs.Prelude.{Some, None, Ok, Err, Option, Result}

-- a result with its value put through f
abbrev pub mapped_ok : {T U E : Type 0} → (T → U) → Result T E → Result U E
mapped_ok f (Ok x) = Ok (f x)
mapped_ok f (Err e) = Err e

-- the next step, where the first was not refused
abbrev pub then : {T U E : Type 0} → Result T E → (T → Result U E) → Result U E
then (Ok x) f = f x
then (Err e) f = Err e

-- the next step, where the first found something
abbrev pub and_then : {T U : Type 0} → Option T → (T → Option U) → Option U
and_then None f = None
and_then (Some x) f = f x

-- what was found, or a refusal
abbrev pub found_or : {T E : Type 0} → E → Option T → Result T E
found_or e None = Err e
found_or e (Some x) = Ok x

-- a value that came, and what stands beside it
abbrev pub beside : {T U E : Type 0} → Result T E → U → Result (T × U) E
beside (Ok x) y = Ok (x, y)
beside (Err e) y = Err e
