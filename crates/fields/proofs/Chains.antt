-- A chain of steps that came to a value, by what each step came to.
use Rattle.std.proofs.Common.{◌≡◌, Bool, true, false, cond, Some, None, Ok, Err, Option, Result, refl, ap}
use Rattle.std.specs.Option.{option_map}
use Rattle.fields.specs.Results.{mapped_ok, then, and_then, found_or}

pub then_case : {T U E G : Type 0} (r : Result T E) (f : T → Result U E) (y : U) → then r f ≡ Ok y → ((x : T) → r ≡ Ok x → f x ≡ Ok y → G) → G
then_case (Ok x) f y h g = g x refl h
then_case (Err e) f y h g = absurd cc

pub mapped_ok_case : {T U E G : Type 0} (f : T → U) (r : Result T E) (y : U) → mapped_ok f r ≡ Ok y → ((x : T) → r ≡ Ok x → f x ≡ y → G) → G
mapped_ok_case f (Ok x) y h g = g x refl (cc)
mapped_ok_case f (Err e) y h g = absurd cc

pub and_then_case : {T U G : Type 0} (o : Option T) (f : T → Option U) (y : U) → and_then o f ≡ Some y → ((x : T) → o ≡ Some x → f x ≡ Some y → G) → G
and_then_case None f y h g = absurd cc
and_then_case (Some x) f y h g = g x refl h

pub mapped_case : {T U G : Type 0} (f : T → U) (o : Option T) (y : U) → option_map f o ≡ Some y → ((x : T) → o ≡ Some x → f x ≡ y → G) → G
mapped_case f None y h g = absurd cc
mapped_case f (Some x) y h g = g x refl (cc)

pub found_some : {T E : Type 0} (e : E) (o : Option T) (x : T) → found_or e o ≡ Ok x → o ≡ Some x
found_some e None x h = absurd cc
found_some e (Some y) x h = let s : y ≡ x = cc in ap Some s

pub cond_case : {T G : Type 0} (b : Bool) (x y z : T) → cond b x y ≡ z → (b ≡ true → x ≡ z → G) → (b ≡ false → y ≡ z → G) → G
cond_case true x y z h f g = f refl h
cond_case false x y z h f g = g refl h

pub cond_ok : {T E : Type 0} (b : Bool) (x y : T) (e : E) → cond b (Ok x) (Err e) ≡ Ok y → (b ≡ true) × (x ≡ y)
cond_ok true x y e h = (refl, cc)
cond_ok false x y e h = absurd cc

pub cond_some : {T : Type 0} (b : Bool) (o : Option T) (y : T) → cond b o None ≡ Some y → (b ≡ true) × (o ≡ Some y)
cond_some true o y h = (refl, h)
cond_some false o y h = absurd cc
