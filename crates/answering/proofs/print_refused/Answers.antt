use Rattle.answers.proofs.Texts.{refusal_printed, refusal_surely}
use Rattle.answering.proofs.print_refused.Goals as goal

pub unwrap-requires : goal.unwrap-requires
unwrap-requires c =
    let p = c.print_refusal in
    refusal_surely _ _ c.told-out p.result _ _ p.ensures.equals p.ensures.rightly

pub returns : goal.returns
returns c =
    let p = c.print_refusal in
    refusal_printed _ _ c.told-out p.result _ _ p.ensures.equals p.ensures.rightly _ c.unwrap.ensures
