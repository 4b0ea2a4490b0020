use Rattle.std.proofs.Common.{◌≤◌, length, min, ap, arith}
use Rattle.std.proofs.lemmas.Result.{err_from_is_err_and}
use Rattle.fields.specs.Results.{mapped_ok}
use Rattle.catalogue.specs.Cells.{cells_of}
use Rattle.catalogue.specs.Keeping.{nothing_kept, kept}
use Rattle.catalogue.proofs.ReadCalls.{refused_text, many_cells, count_read, cells_read}
use Rattle.catalogue.proofs.calls.read_within.Goals as goal

pub returns-in_err-read_text : goal.returns-in_err-read_text
returns-in_err-read_text g c =
    let p = err_from_is_err_and c.from_residual.result c.from_residual.ensures.1 in
    rw (p.1, p.2) (record { few = tt; value = ap (mapped_ok length) (refused_text c.args.text.now c.args.room _ (λ x. kept {N = g.row.N} nothing_kept (cells_of x)) (rw c.requires at c.in_err-read_text.ensures)); cells = tt })

pub returns-then-count-min : goal.returns-then-count-min
returns-then-count-min g c =
    let many = many_cells c.args.text.now c.read_text.new.out c.args.room (rw c.requires at c.in_ok-read_text.ensures) (omega (arith, c.min.ensures)) in
    record { few = tt; value = rw c.at.ensures (ap (mapped_ok length) many); cells = tt }

pub returns : goal.returns
returns g c =
    let read = rw c.requires at c.in_ok-read_text.ensures in
    let few : c.read_text.new.out.count ≤ min c.args.room 8192 = omega (arith, c.min.ensures) in
    record {
      few = omega (arith, c.min.ensures);
      value = rw c.count-count.ensures (count_read c.args.text.now c.read_text.new.out c.args.room read few);
      cells = λ h. cells_read c.args.text.now c.read_text.new.out c.args.room read few (omega arith);
    }
