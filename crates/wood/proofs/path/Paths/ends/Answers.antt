-- `ends` follows the colour and marks what it passes: `OnWalk` is kept from vertex to vertex, and each of its three ends is one law.
use Rattle.wood.proofs.PathLaws.{walk_begins, walk_anchors, walk_meets, walk_whole, walk_goes_on}
use Rattle.wood.proofs.path.Paths.ends.Goals as goal

pub loop-init : goal.loop-init
loop-init c = walk_begins _ _ _ _ c.args.self.now.inside c.requires.0 c.requires.1 _ c.requires.2

pub returns-then-u-lt3 : goal.returns-then-u-lt3
returns-then-u-lt3 c = walk_anchors _ _ _ _ c.args.self.now.inside c.requires.0 c.requires.1 _ _ _ c.loop.invariant c.if-u-lt3.true

pub returns-in-Some : goal.returns-in-Some
returns-in-Some c =
    walk_meets _ _ _ _ c.args.self.now.inside c.requires.0 c.requires.1 _ _ _ c.loop.invariant c.in-Some.mark c.in-Some.is c.if-u-lt3.false

pub loop-preserved : goal.loop-preserved
loop-preserved c =
    walk_goes_on _ _ _ _ c.args.self.now.inside c.requires.0 c.requires.1 _ _ _ c.loop.invariant c.at-u.result c.loop-test.true
    c.if-u-lt3.false c.at-u.ensures

pub returns : goal.returns
returns c = walk_whole _ _ _ _ c.args.self.now.inside c.requires.0 c.requires.1 _ _ _ c.loop.invariant c.loop-test.false
