-- What reads take from the known bytes of a source, as they fill a buffer.
use Rattle.std.proofs.Common.{◌≡◌, ℕ, ◌+◌, ◌≤◌, Option, None, Some, List, ◌++◌, length, take, sym, refl, ap, subst, ◌∙◌, append_assoc, arith}
use Rattle.std.proofs.lemmas.List.{length-take-le, take-take}
use Rattle.std.proofs.lemmas.Slice.{take-put_mid}
use Rattle.std.proofs.Math.Seq.{take-append-add}
use Rattle.std.specs.Io.KnownBytes.{Consumes}
use borrow.Rule.Slice.PartMut.{put_mid}

-- one read after another
pub consumed_then : (a b c : Option (List ℕ)) (p q : List ℕ) → Consumes a b p → Consumes b c q → Consumes a c (p ++ q)
consumed_then None b c p q first next = tt
consumed_then (Some xs) None c p q first next = absurd first
consumed_then (Some xs) (Some ys) None p q first next = absurd next
consumed_then (Some xs) (Some ys) (Some zs) p q first next = first ∙ ap (λ l. p ++ l) next ∙ sym (append_assoc p q zs)

-- a read into the room that is left
pub next_came : (n got room : ℕ) (buffer part : List ℕ) → n ≤ length buffer → got ≤ length part → take (n + got) (put_mid n room buffer part) ≡ take n buffer ++ take got part
next_came n got room buffer part h few =
    let long : length (take n buffer) ≡ n = length-take-le n buffer h in
    sym (take-take (n + got) (n + length part) (put_mid n room buffer part) (omega arith))
    ∙ ap (take (n + got)) (take-put_mid n room buffer part (n + length part) refl h)
    ∙ subst (λ m. take (m + got) (take n buffer ++ part) ≡ take n buffer ++ take got part) long (take-append-add (take n buffer) part got)
