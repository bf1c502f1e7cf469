use Rattle.fault_lines.proofs.writing.write_divergence.Goals as goal

pub returns : goal.returns
returns g c = c.write_parts.ensures
