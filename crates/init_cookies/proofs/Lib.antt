pub mod ComeBack
pub mod Fitting
