-- A pair's line: what stands for a partner, the line's length, and its parts put one after another. Assumes nothing.
use Prim.Native.Char.{code}
use mathlib.Core.Path.{◌≡◌, refl, ap}
use mathlib.Core.Bool.{Bool, cond}
use mathlib.Core.List.{List}
use Prim.Native.Nat.{ℕ, ◌+◌, ◌≤◌, ◌<◌}
use native.Mathlib.Omega.{arith}
use borrow.Author.Tests.{lt-ltb, le-ltb}
use lib.ListN.{length, get_or, set, length-set}
use Rattle.text.specs.Text.{newline, space, bytes_of, decimal, following}
use Rattle.partners.specs.Pairs.{partner, pair_line}
use Rattle.text.specs.Put.{Put}
use Rattle.text.proofs.Puts.{put_byte, put_then, length_put, put_as, put_following}
use Rattle.text.proofs.Lines.{line_two, length_two}

-- ## A partner

module _ (n : ℕ) (ids : List ℕ) (who : ℕ) where
  pub partner_id : who < n → partner n ids who ≡ decimal (get_or ids who 0)
  unfolding partner
  partner_id l = ap (λ (t : Bool). cond t (decimal (get_or ids who 0)) (bytes_of "-")) (lt-ltb who n l)

  pub partner_none : n ≤ who → partner n ids who ≡ bytes_of "-"
  unfolding partner
  partner_none l = ap (λ (t : Bool). cond t (decimal (get_or ids who 0)) (bytes_of "-")) (le-ltb who n l)

-- a space and a dash
pub put_dash : (at : ℕ) (old : List ℕ) → at + 1 < length old → Put at (following (bytes_of "-")) old (set (set old at space) (at + 1) (code "-")) (at + 2)
put_dash at old l =
    put_following at (bytes_of "-") old (omega arith) (put_byte (code "-") (set old at space) (omega arith) (omega (arith, length-set old at space)))

-- ## A pair

module _ (n : ℕ) (ids donors recipients : List ℕ) (i : ℕ) where
  pub length_pair : length (pair_line n ids donors recipients i)
      ≡ length (decimal (get_or ids i 0)) + (length (partner n ids (get_or donors i 0)) + 1) + (length (partner n ids (get_or recipients i 0)) + 1) + 1
  unfolding pair_line
  length_pair = length_two (decimal (get_or ids i 0)) (partner n ids (get_or donors i 0)) (partner n ids (get_or recipients i 0))

  module _ {at one two three : ℕ} {old a b c : List ℕ} (fits : at + length (pair_line n ids donors recipients i) ≤ length old)
      (p : Put at (decimal (get_or ids i 0)) old a one) where
    pub put_pair : Put one (following (partner n ids (get_or donors i 0))) a b two → Put two (following (partner n ids (get_or recipients i 0))) b c three
        → Put at (pair_line n ids donors recipients i) old (set c three newline) (three + 1)
    unfolding pair_line
    put_pair q r =
        let k = length_pair in
        let h : at + length (decimal (get_or ids i 0)) ≤ length old = omega arith in
        let j : one + length (following (partner n ids (get_or donors i 0))) ≤ length a = omega (arith, p.ends, length_put h p) in
        let l : two + length (following (partner n ids (get_or recipients i 0))) ≤ length b = omega (arith, p.ends, q.ends, length_put h p, length_put j q) in
        put_as (line_two (decimal (get_or ids i 0)) (partner n ids (get_or donors i 0)) (partner n ids (get_or recipients i 0)))
        (put_then h p
        (put_then j q
        (put_then l r (put_byte newline c refl (omega (arith, p.ends, q.ends, r.ends, length_put h p, length_put j q, length_put l r))))))
