use Rattle.std.proofs.Common.{◌≡◌, Some, refl}
use Rattle.spc_tables.specs.Opcodes.{row_of, entry_of, matrix, others, moves}
use Rattle.spc_tables.specs.declared.mode.SpcMode.TheVariants.{Absolute, Direct, Stack}
use Rattle.spc_tables.specs.declared.operation.SpcOp.TheVariants.{Call, Ret, PushA, PushX, PushY, PushPsw, PopA, PopX, PopY, PopPsw, StoreYa, MovwYa}

-- the rows of the opcodes that the laws speak of

pub row_of_call : row_of 0x3F ≡ Some (record { op = Call; mode = Absolute })
unfolding row_of entry_of matrix others moves
row_of_call = refl

pub row_of_return : row_of 0x6F ≡ Some (record { op = Ret; mode = Stack })
unfolding row_of entry_of matrix others moves
row_of_return = refl

pub row_of_push_a : row_of 0x2D ≡ Some (record { op = PushA; mode = Stack })
unfolding row_of entry_of matrix others moves
row_of_push_a = refl

pub row_of_push_x : row_of 0x4D ≡ Some (record { op = PushX; mode = Stack })
unfolding row_of entry_of matrix others moves
row_of_push_x = refl

pub row_of_push_y : row_of 0x6D ≡ Some (record { op = PushY; mode = Stack })
unfolding row_of entry_of matrix others moves
row_of_push_y = refl

pub row_of_push_psw : row_of 0x0D ≡ Some (record { op = PushPsw; mode = Stack })
unfolding row_of entry_of matrix others moves
row_of_push_psw = refl

pub row_of_pop_a : row_of 0xAE ≡ Some (record { op = PopA; mode = Stack })
unfolding row_of entry_of matrix others moves
row_of_pop_a = refl

pub row_of_pop_x : row_of 0xCE ≡ Some (record { op = PopX; mode = Stack })
unfolding row_of entry_of matrix others moves
row_of_pop_x = refl

pub row_of_pop_y : row_of 0xEE ≡ Some (record { op = PopY; mode = Stack })
unfolding row_of entry_of matrix others moves
row_of_pop_y = refl

pub row_of_pop_psw : row_of 0x8E ≡ Some (record { op = PopPsw; mode = Stack })
unfolding row_of entry_of matrix others moves
row_of_pop_psw = refl

pub row_of_store_ya : row_of 0xDA ≡ Some (record { op = StoreYa; mode = Direct })
unfolding row_of entry_of matrix others moves
row_of_store_ya = refl

pub row_of_load_ya : row_of 0xBA ≡ Some (record { op = MovwYa; mode = Direct })
unfolding row_of entry_of matrix others moves
row_of_load_ya = refl
