-- A kernel's code with the tables that are made from it is verified, if its instructions suit the kernel's parameters.
use Rattle.std.proofs.Common.{◌≡◌, ◌<◌, List, [], ◌∷◌, ◌++◌, length, slice_index, refl, arith}
use Rattle.std.proofs.lemmas.List.{length-append}
use Rattle.clmodel.specs.Next.{sites_in}
use Rattle.regcode.specs.declared.instruction.Instruction.{Instruction}
use Rattle.regcode.specs.declared.instruction.Instruction.TheVariants as instruction
use Rattle.lower_code.specs.Code.{result_in, body_code, call_code, arguments_code, kernel_code}
use Rattle.code_tables.specs.Tables.{register_count, loops_from}
use Rattle.lower.specs.Accepted.{KernelsVerified}
use Rattle.lower.proofs.Tabled.{suit_fits, names_there, loops_counted}
use Rattle.lower.proofs.KernelWays.{kernels_go}

outside : (code : List Instruction) → 0 < length code → slice_index (loops_from 0 code) 0 ≡ 0
outside [] h = absurd (omega (arith, h))
outside (i ∷ code) h = refl

pub kernels_verified : KernelsVerified
kernels_verified parameters earlier f distinct few suit =
    let code = kernel_code earlier f in
    let arguments = arguments_code f.parameters 0 in
    let body = body_code (call_code earlier) (result_in earlier) (sites_in earlier) f 0 0 0 in
    let last : List Instruction = instruction.End ∷ [] in
    let all = length-append arguments (body ++ last) in
    let all' = length-append body last in
    let begins : 0 < length code = omega (arith, all, all') in
    record {
      begins = begins;
      listed = loops_counted 0 code;
      outside = outside code begins;
      named = names_there code (register_count code);
      each = λ place i is. let r = kernels_go parameters earlier f distinct few place i is in record { fits = suit_fits parameters code suit place i is; leads = r.0; few = r.1 };
    }
