use Rattle.std.proofs.Common.{◌≡◌, ◌++◌, ◌∙◌, sym, subst, append_assoc, codes, decimal, OnOk, List, ℕ, string_bytes}
use Rattle.wide_faults.proofs.faults.push_command.Goals as goal

pub returns : goal.returns
returns c =
    let number : List ℕ = decimal c.args.number in
    let between : List ℕ = codes ", line " in
    let line : List ℕ = decimal c.args.line in
    let end : List ℕ = codes " of the script: " in
    subst (λ (t : List ℕ). OnOk c.write.result (string_bytes c.write.new.self ≡ string_bytes c.args.out.now ++ (codes "command " ++ t)))
    (sym (append_assoc (number ++ between) line end ∙ append_assoc number between (line ++ end))) c.write.ensures.bytes
