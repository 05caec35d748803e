use Rattle.std.proofs.Common.{◌≡◌, ℕ, ◌+◌, ◌%◌, ◌<◌, [], ◌∷◌, refl, arith}
use Rattle.spc_tables.specs.declared.access.SpcAccess.TheVariants.{Fetch, Read, Write, Inner}
use Rattle.spc_tables.specs.declared.regs.SpcRegs.{SpcRegs}
use Rattle.spc_alu.specs.Results.{stored, popped}
use Rattle.spc_modes.specs.Plan.{ends}
use Rattle.spc_modes.specs.Uses.{use_of}
use Rattle.processor_laws.specs.Accesses.{accesses_of, left_after}
use Rattle.processor_laws.specs.OnTheStack.{byte_of, pull_opcode, push_opcode, with_byte}
use Rattle.processor_laws.specs.declared.pulls.Pushed.{Pushed}
use Rattle.processor_laws.specs.declared.pulls.Pushed.TheVariants.{A, X, Y, Status}
use Rattle.processor_laws.proofs.SpcRows.{row_of_push_a, row_of_pop_a, row_of_push_x, row_of_pop_x, row_of_push_y, row_of_pop_y, row_of_push_psw, row_of_pop_psw}

-- the stack pointer after a push and a pull
pub one_up : (sp : ℕ) → sp < 256 → ((sp + 255) % 256 + 1) % 256 ≡ sp
one_up sp h = omega arith

pub pushed : (which : Pushed) (r : SpcRegs) → accesses_of r (push_opcode which ∷ 0 ∷ 0 ∷ 0 ∷ []) ≡ Fetch r.pc ∷ Inner ∷ Write (256 + r.sp) (byte_of which r) ∷ Inner ∷ []
unfolding use_of stored
pushed A r = rw row_of_push_a refl
pushed X r = rw row_of_push_x refl
pushed Y r = rw row_of_push_y refl
pushed Status r = rw row_of_push_psw refl

pub after_push : (which : Pushed) (r : SpcRegs) → left_after r (push_opcode which ∷ 0 ∷ 0 ∷ 0 ∷ []) ≡ ends (record r { pc = (r.pc + 1) % 65536; sp = (r.sp + 255) % 256 })
unfolding use_of stored
after_push A r = rw row_of_push_a refl
after_push X r = rw row_of_push_x refl
after_push Y r = rw row_of_push_y refl
after_push Status r = rw row_of_push_psw refl

pub pulled : (which : Pushed) (r : SpcRegs) (sp last byte : ℕ) → r.sp ≡ sp → (sp + 1) % 256 ≡ last → accesses_of r (pull_opcode which ∷ 0 ∷ 0 ∷ byte ∷ []) ≡ Fetch r.pc ∷ Inner ∷ Inner ∷ Read (256 + last) ∷ []
unfolding use_of popped
pulled A r sp last byte same up = rw (row_of_pop_a, same, up) refl
pulled X r sp last byte same up = rw (row_of_pop_x, same, up) refl
pulled Y r sp last byte same up = rw (row_of_pop_y, same, up) refl
pulled Status r sp last byte same up = rw (row_of_pop_psw, same, up) refl

pub after_pull : (which : Pushed) (r : SpcRegs) (sp last byte : ℕ) → r.sp ≡ sp → (sp + 1) % 256 ≡ last → left_after r (pull_opcode which ∷ 0 ∷ 0 ∷ byte ∷ []) ≡ ends (with_byte which byte (record r { pc = (r.pc + 1) % 65536; sp = last }))
unfolding use_of popped
after_pull A r sp last byte same up = rw (row_of_pop_a, same, up) refl
after_pull X r sp last byte same up = rw (row_of_pop_x, same, up) refl
after_pull Y r sp last byte same up = rw (row_of_pop_y, same, up) refl
after_pull Status r sp last byte same up = rw (row_of_pop_psw, same, up) refl
