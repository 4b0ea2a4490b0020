use Rattle.std.proofs.Common.{ap, sym, ◌∙◌}
use Rattle.std.specs.Str.Iter.{split_whitespace_rest}
use Rattle.cases.proofs.Words.{said_with_word, said_by_all}
use Rattle.cases.proofs.numbers.parse_numbers.Goals as goal

pub loop-word-init : goal.loop-word-init
loop-word-init c =
    let whole = ap split_whitespace_rest c.into_iter-word-iterator.ensures.into_iter_gives ∙ c.split_whitespace-word-items.ensures.rest in
    rw (whole, c.new-numbers.ensures.items) (λ more said. said)

pub loop-word-preserved : goal.loop-word-preserved
loop-word-preserved c = rw (c.in_ok-push_times.ensures, sym c.in_ok-times.ensures) (said_with_word _ c.loop-word.invariant c.in-Some.ensures.steps)

pub returns : goal.returns
returns c = said_by_all _ c.loop-word.invariant c.in-None.ensures.steps.1
