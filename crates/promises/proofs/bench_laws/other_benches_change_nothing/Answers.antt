use Rattle.promises.proofs.BenchesHear.{IsServed, hears_the_same}
use Rattle.promises.proofs.bench_laws.other_benches_change_nothing.Goals as goal

pub returns : goal.returns
returns c = λ formula f bytes other text said status ended read answered also seen others are others_are t among among_others same.
    let x : IsServed f bytes text t = record { status = status; answered = answered; seen = seen; are = are; among = among } in
    let y : IsServed f other said t = record { status = ended; answered = also; seen = others; are = others_are; among = among_others } in
    hears_the_same read x y same
