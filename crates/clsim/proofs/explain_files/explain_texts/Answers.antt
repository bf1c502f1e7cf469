use Rattle.clsim.proofs.FileLemmas.{told, untold}
use Rattle.clsim.proofs.explain_files.explain_texts.Goals as goal

pub returns : goal.returns
returns g c = record {
  told = told c.args.options c.given.result _ _ _ _ _ _ c.explain.result c.given.ensures.is c.given.ensures.by c.explain.ensures.explains c.explain.ensures.says c.explain.ensures.released;
  untold = untold c.args.options.configuration c.given.result _ _ _ _ _ c.explain.result c.given.ensures.is c.explain.ensures.failed;
}
