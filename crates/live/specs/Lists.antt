-- "For every list of these calls from an empty pool": a list of calls, one after another, and what a pool holds by the list and its answers. Assumes nothing.
use Rattle.std.specs.Prelude.{ℕ, Bool, false, cond, List, [], ◌∷◌, ◌++◌, eqb}
use Rattle.laws.specs.Below.{either}
use Rattle.refusal.specs.Answer.{Answer, finished, refused, Outcome}
use Rattle.pool.specs.Pool.{Pair}
use Rattle.live.specs.Live.{Live}
use Rattle.live.specs.Calls.{registering, withdrawing}

pub data Call : Type 0 where
  register : Pair → Call
  withdraw : ℕ → Call

-- ## The calls, each on what the one before it left: refused ones are among them

unfoldable pub does : Call → Live → Outcome (Unit {0}) Live
does (register p) l = registering p l
does (withdraw id) l = withdrawing id l

-- what they leave
unfoldable pub after : List Call → Live → Live
after [] l = l
after (c ∷ cs) l = after cs (does c l).lent

-- each call with its answer
pub record Said : Type 0 where
  pub call : Call
  pub answer : Answer (Unit {0})

abbrev pub said : Call → Answer (Unit {0}) → Said
said c a = record { call = c; answer = a }

unfoldable pub trace : List Call → Live → List Said
trace [] l = []
trace (c ∷ cs) l = said c (does c l).answer ∷ trace cs (does c l).lent

-- ## "it holds the pairs registered and not withdrawn since, in order of registration": by what was said alone

-- does this withdraw id x? A refused withdrawal does not
unfoldable pub takes_out : ℕ → Call → Answer (Unit {0}) → Bool
takes_out x (register p) a = false
takes_out x (withdraw id) (finished done) = eqb id x
takes_out x (withdraw id) (refused k place) = false

unfoldable pub withdrawn_in : ℕ → List Said → Bool
withdrawn_in x [] = false
withdrawn_in x (s ∷ t) = either (takes_out x s.call s.answer) (withdrawn_in x t)

-- of a pair that was registered, and of what was said since: the pair, where its id is "not withdrawn since"
unfoldable pub staying : List Said → Pair → List Pair
staying since p = cond (withdrawn_in p.id since) [] (p ∷ [])

-- the pair that a call brought in, where it is still there; a refused call, and a withdrawal, bring in none
unfoldable pub brought_in : Call → Answer (Unit {0}) → List Said → List Pair
brought_in (register p) (finished done) since = staying since p
brought_in (register p) (refused k place) since = []
brought_in (withdraw id) a since = []

unfoldable pub held : List Said → List Pair
held [] = []
held (s ∷ t) = brought_in s.call s.answer t ++ held t
