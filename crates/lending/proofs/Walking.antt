-- What walks use of the toolchain's logic, gathered. The laws that a walk takes for granted are `Logic`. Assumes nothing.
pub use mathlib.Core.Path.{◌≡◌, refl, sym, ◌∙◌, ap, subst}
pub use mathlib.Core.Bool.{Bool}
pub use mathlib.Core.Logic.{⊎_elim}
pub use mathlib.Core.WellFounded.InvImage.{wf as InvImage·wf}
pub use mathlib.Core.WellFounded.{WellFounded}
pub use mathlib.Core.List.{[], ◌∷◌, List}
pub use Prim.Native.Nat.{ℕ, ◌+◌, ◌-◌, ◌*◌, ◌<◌, ◌≤◌, ◌^◌}
pub use native.Mathlib.Nat.{eq-or-lt_of_le, le_of_eq, lt_of_le_of_lt}
pub use native.Mathlib.Numerals.{add-one-le}
pub use native.Mathlib.Omega.{arith}
pub use lib.ListN.{length, get_or, set, length-set}
pub use lib.WfN.{lt-wf_rel as Nat·lt-wfRel}
pub use lib.Dec.{T as Holds, lit<}
pub use borrow.Author.Tests.{lt-ltb, le-ltb}
pub use seplogic.Ra.Ura.{Ura}
pub use base.Fraction.{full_share}
pub use mir.Syntax.{named, ty_unit, ty_bool, ty_ptr, w8, w16, w32, w64}
pub use mir.Val.{Val, vunit, vbool, vint, vptr, has_ty, WT}
pub use base.Logic.{SProp, ent, id⊢, via, emp, fst∗}
pub use base.Fml.{Lft, Share, GName, ftrue, fat, froom, fdies, flft, flent}
pub use prog.Memory.{Memory}
pub use prog.Routine.{Routine}
pub use prog.Wp.{Heap, Out, Env, after_seq, after_block, Calls, Loops, Wp, at_return, WpFn, Tables}
unfoldable pub use prog.Wp.{after_turn}
pub use ghost.Atoms.{Atoms}
pub use contract.Monad.{Fun, fact}
pub use contract.Lifetimes.{AllOutlive}
pub use contract.Running.{tables}
unfoldable pub use contract.Running.{tables_of}
pub use types.Logic.{Logic, sem, lfts}
pub use types.Kit.{‵, raw, some, later, ◌⊛◌, ⋆, Item, Sq, runs, any_q, at_ret, ◌$◌, ◌∵◌, !, qed, by, move, keep, drop, use1, use2, use3, cut}
pub use types.Kit.{split, join, pick, rewrite, fsplit, fsplit3, fjoin, fjoin3, feq_i, feq_l, suffices, frame, await, done}
pub use types.Run.{look, init, store, forget, stop, hop, fld, from, load, lit, addr, unit_lit, of_opd, bin, and_then, no_more, land, assigns}
pub use types.Run.{assigns_last, first, stays, leaves_loop, blocks, exec, Below, again, loops, returns, enter, alloc1, alloc0, params1, pass1, pass0}
pub use types.Run.{free1, free0}
pub use types.Part.{agg, whole, sub, look_in}
pub use types.SemTy.{Body}
pub use types.Tokens.{lft_new, lft_end}
pub use sound.WpLaws.{FmC, fm_of, WpFn-mono}
pub use denote.RattleType.{RattleType, owns}
pub use denote.Laws.{Is, shows}
pub use denote.Memory.{mem, lone, cell_at}
pub use denote.Plain.{Nothing, uint_vals, uint_Tells, uint_Makes}
pub use denote.Builtin.{u8, u16, u32, u64, usize}
pub use denote.Ref.{Bor, MutBor, MutRef, shr_vals, mut_vals, mut_Tells}
pub use denote.Slice.{slice_val, MutSlice, ShrSlice, Room, shr_slice_at, mut_slice_at, shr_slice_vals, mut_slice_vals, mut_slice_Tells, shr_slice_Tells, shr_slice_copy}
pub use denote.Shadow.{pure_i}
pub use denote.Array.{array_vals}
pub use denote.Index.{place, place_is, elem_out, elem_put, opens_slice, closes_slice}
pub use denote.Signature.{plain, shr_slice_of}
pub use denote.Signature.Array.{array_of}
pub use denote.Lend.{Held, LentAgain as LentRef, lends_again, comes_back}
pub use denote.Steps.{only, opens, closes, owned, facts, heard, nothing}
pub use denote.Struct.Steps.{spelt}
pub use denote.Triple.Entry.{on_entry}
pub use denote.Triple.Spec.{Meets, triple_of}
pub use denote.Triple.Statement.{Contract, Triple}
pub use denote.Triple.Call.{calls_at}
pub use denote.Triple.Clauses.{ensured, lasts}
pub use denote.Triple.Table.{entered, cited}
pub use denote.Triple.Walked.{says, needs, Stays, stay_dropped, stay_ref, stay_slice, walk_of, Goes-dropped, Goes-ref, Goes-slice, Walks, ends_at}
pub use denote.Triple.Walked.{walked, walk_Meets}
pub use denote.Exit.{yes}
pub use Rattle.lending.proofs.Lending.{renamed, ty_of, less_fits, local_out, local_back, LentAgain, again_out, again_back, LentShared}
pub use Rattle.lending.proofs.Lending.{shared_out, shared_out_free, shared_back, array_out, array_back, Row, row_val, row_tells, row_makes, row_typed, row_field}
pub use Rattle.lending.proofs.Lending.{place_fits, says_two, says_three}
