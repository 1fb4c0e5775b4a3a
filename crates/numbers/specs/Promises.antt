-- What is promised of the numbers, as statements: from an answer's numbers one knows the answer. The proofs are in `proofs/`, and the contract of each
-- exported call says which of these its answer is. Assumes nothing.
use Rattle.std.specs.Prelude.{ℕ, ◌≤◌, ◌≡◌}
use Rattle.refusal.specs.Answer.{Answer, refused}
use Rattle.numbers.specs.Numbers.{read_numbers, write_numbers, join_numbers, build_numbers, live_numbers, plan_numbers, print_numbers}

-- a refusal has a number from 1 on: no finished call has its numbers
abbrev pub Numbered : {Result : Type 0} → Answer Result → Type 0
Numbered a = (k o : ℕ) → a ≡ refused k o → 1 ≤ k

-- and its place is 0, as in every call but reading and joining
abbrev pub NumberedAt0 : {Result : Type 0} → Answer Result → Type 0
NumberedAt0 a = (k o : ℕ) → a ≡ refused k o → (1 ≤ k) × (o ≡ 0)

-- no two of the answers that `Are` so have the same numbers
abbrev pub Own : {Result Given : Type 0} → (Answer Result → Type 0) → (Answer Result → Given) → Type 0
Own {Result} Are numbers = (a b : Answer Result) → Are a → Are b → numbers a ≡ numbers b → a ≡ b

-- one answer's numbers never stand for two
pub record OneAnswer : Type 0 where
  pub read : Own Numbered read_numbers
  pub write : Own NumberedAt0 write_numbers
  pub join : Own Numbered join_numbers
  pub build : Own NumberedAt0 build_numbers
  pub live : Own NumberedAt0 live_numbers
  pub plan : Own NumberedAt0 plan_numbers
  pub print : Own NumberedAt0 print_numbers
