use Rattle.std.proofs.Common.{◌≡◌, [], IfOk, slice_index_or, ◌<◌, length, ap, sym, subst, ◌∙◌, arith}
use Rattle.std.proofs.lemmas.Bool.{ltb-true}
use Rattle.std.proofs.lemmas.List.{length-map}
use Rattle.clmodel.specs.Setup.{local_objects}
use Rattle.item_step.specs.Launches.{setup_of}
use Rattle.launches.proofs.Names.{local_named}
use Rattle.launches.proofs.loaded.LoadedLaunchDescribed.local_name.Goals as goal

pub returns-in-Some : goal.returns-in-Some
returns-in-Some c =
    let setup = setup_of c.args.self.now.launch.now in
    let objects = local_objects setup in
    let names = setup.program.names in
    let within : c.args.number < length c.local_names.result.now = ltb-true _ _ (sym c.in-Some.ensures.lookup.0) in
    let below : c.args.number < length objects = omega (arith, within, ap length c.local_names.ensures, length-map objects (λ o. o.name)) in
    let same = c.in-Some.ensures.lookup.1 ∙ ap (λ l. slice_index_or l c.args.number c.in-Some.name.now) c.local_names.ensures in
    subst (λ x. IfOk c.source_name.result (λ name. name ≡ x)) (ap (λ k. slice_index_or names k []) same ∙ local_named names objects c.args.number c.in-Some.name.now below) c.source_name.ensures
