-- What a contract sees of items in fixed room.
use Rattle.std.specs.Prelude.{List, refl}
use Rattle.std.specs.Coded.{Coded, code_by, coded_list}

-- the items, in order
pub record Items (T : Type 0) : Type 0 where
  pub items : List T

-- they are stored as their list
abbrev pub items_code : {T : Type 0} → Coded T → Coded (Items T)
items_code {T} code =
    code_by (List T) (coded_list code) (λ v. v.items) (λ xs. record { items = xs }) (λ _. refl)
