use Rattle.std.proofs.Common.{refl, Ok}
use Rattle.room.proofs.Innermost.{two_left}
use Rattle.room.proofs.KeyLists.{list_kept, list_told, list_stop}
use Rattle.room.proofs.opens.Opens.read_list.Goals as goal

pub below-depth-requires : goal.below-depth-requires
below-depth-requires g c = two_left c.self.inside c.self.invariant c.args.self.now c.self.view_is c.requires.free

pub invariant_of-self : goal.invariant_of-self
invariant_of-self g c =
    let view = g.R.DeRead.view in
    let k = c.read_listed-read.ensures in
    list_kept c.self.inside c.self.invariant _ c.self.view_is c.requires.none c.requires.free _ _ _ c.below-depth.ensures k.level c.above-self-inside.ensures _ _ (view c.args.bunser.now.read) (view c.read_listed-read.new.bunser.read) _ k.few c.read_listed-read.result k.reads.reads

pub invariant_of-self-in-Err : goal.invariant_of-self-in-Err
invariant_of-self-in-Err g c =
    let view = g.R.DeRead.view in
    let k = c.read_listed-read.ensures in
    list_kept c.self.inside c.self.invariant _ c.self.view_is c.requires.none c.requires.free _ _ _ c.below-depth.ensures k.level c.above-self-inside.ensures _ _ (view c.args.bunser.now.read) (view c.read_listed-read.new.bunser.read) _ k.few c.read_listed-read.result k.reads.reads

pub returns-in-Ok : goal.returns-in-Ok
returns-in-Ok g c =
    let view = g.R.DeRead.view in
    let k = c.read_listed-read.ensures in
    record { reads = list_told c.self.inside c.self.invariant _ c.self.view_is c.requires.none c.requires.free _ _ _ c.below-depth.ensures k.level c.above-self-inside.ensures _ _ (view c.args.bunser.now.read) (view c.read_listed-read.new.bunser.read) _ k.few (Ok c.in-Ok.field-0) c.in-Ok.ensures.reads.reads refl; same = k.reads.same }

pub returns-in-Err : goal.returns-in-Err
returns-in-Err g c =
    let view = g.R.DeRead.view in
    let k = c.read_listed-read.ensures in
    record { reads = list_stop c.self.inside c.self.invariant _ c.self.view_is c.requires.none c.requires.free _ _ _ c.below-depth.ensures k.level c.above-self-inside.ensures _ _ (view c.args.bunser.now.read) (view c.read_listed-read.new.bunser.read) _ k.few c.read_listed-read.result k.reads.reads _ _ c.in-Err.is c.forget.ensures; same = k.reads.same }
