-- What a contract sees of a row.
use Rattle.std.specs.Prelude.{ℕ, List, refl}
use Rattle.std.specs.Coded.{Coded, code_by, coded×, coded_list, coded_ℕ}

-- the items of a row in order; beside them what stands in its unused places and how many places are used. Clauses speak of
-- the items alone, but where a row is as it was; the row gets its fields back from all three
pub record Listed (T : Type 0) : Type 0 where
  pub items : List T
  pub spare : List T
  pub count : ℕ

-- a row is stored as the triple of these
abbrev pub listed_code : {T : Type 0} → Coded T → Coded (Listed T)
listed_code {T} code =
    code_by (List T × (List T × ℕ)) (coded× (coded_list code) (coded× (coded_list code) coded_ℕ)) (λ r. (r.items, (r.spare, r.count)))
    (λ p. record { items = p.0; spare = p.1.0; count = p.1.1 }) (λ _. refl)
