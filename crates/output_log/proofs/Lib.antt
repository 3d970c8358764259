mod Queueing
