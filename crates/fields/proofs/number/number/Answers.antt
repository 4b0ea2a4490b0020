use Rattle.fields.proofs.Digits.{reads_digits}
use Rattle.fields.proofs.number.number.Goals as goal

pub returns-in_err-n-clause-law : goal.returns-in_err-n-clause-law
returns-in_err-n-clause-law g c = reads_digits

pub returns-in_err-narrow-clause-law : goal.returns-in_err-narrow-clause-law
returns-in_err-narrow-clause-law g c = reads_digits

pub returns-clause-law : goal.returns-clause-law
returns-clause-law g c = reads_digits
